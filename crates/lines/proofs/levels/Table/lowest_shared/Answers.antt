-- `levels::Table::lowest_shared` meets its contract: the lesser of two lowest places is the lowest of both. Assumes nothing.
use Rattle.std.proofs.Common.{arith}
use Rattle.lines.proofs.LeastLaws.{least_lesser, shared_below}
use Rattle.lines.specs.Inside.{SharedAt}
use Rattle.lines.proofs.levels.Table.lowest_shared.Goals as goal

pub loop-other-preserved : goal.loop-other-preserved
loop-other-preserved c =
    let t = c.args.self.now.words.now in
    let i = c.args.row in
    shared_below t i _ _ _ _ c.loop-other.invariant
    (least_lesser (SharedAt t i c.loop-other.other) 1048576 _ _ _ c.shared.ensures (omega arith) c.min-least.ensures)
