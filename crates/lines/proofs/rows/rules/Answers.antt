-- `rows::rules` meets its contract: an accepted row is one of the first 64. Assumes nothing.
use Rattle.std.proofs.Common.{◌∙◌, sym, arith}
use Rattle.model.proofs.TestLaws.{each_go}
use Rattle.lines.proofs.RowLaws.{accepted-row}
use Rattle.lines.specs.Lines.{row_rule}
use Rattle.lines.proofs.rows.rules.Goals as goal

pub loop-row-preserved : goal.loop-row-preserved
loop-row-preserved c =
    let few = (accepted-row c.args.table.now c.loop-row.row (sym c.rule.ensures ∙ c.in_ok-rule.was)).at_most_64 in
    (c.loop-row.invariant.0, omega arith, each_go (row_rule c.args.table.now) _ _ c.loop-row-test.true c.rule.ensures c.in_ok-rule.was ∙ c.loop-row.invariant.2)
