-- `numbers::are_small` meets its contract: the numbers passed are small, and behind the third every number is 0. Assumes nothing.
use Rattle.script.specs.Reads.{kind_of, Small}
use Rattle.script.proofs.numbers.are_small.Given as goal

abbrev pub invariant-loop-i : goal.invariant-loop-i
invariant-loop-i l = Small (kind_of l.kind) l.wide l.i
