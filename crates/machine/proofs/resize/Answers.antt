-- `resize` meets its contract: the zeros that were added are those that were asked for. Assumes nothing.
use Rattle.std.proofs.Common.{arith}
use Rattle.machine.proofs.WordLaws.{zeros_end}
use Rattle.machine.proofs.resize.Goals as goal

pub returns : goal.returns
returns c =
    let a = c.args in
    record {
      inside = omega (arith, c.loop-i.invariant.1, c.requires.1);
      first = zeros_end a.words.now c.loop-i.words a.count a.new c.loop-i.i c.requires.0 (omega arith) (omega arith) (omega arith) c.loop-i.invariant.2;
    }
