-- `levels::Table::row_of` meets its contract: the search ends at the row that covers the level, or behind all rows. Assumes nothing.
use Rattle.std.proofs.Common.{sym, ◌∙◌, arith}
use Rattle.lines.proofs.CountLaws.{first_hit, first-none, is_found, is_none}
use Rattle.lines.specs.Lines.{covers}
use Rattle.lines.proofs.levels.Table.row_of.Goals as goal

pub returns-then-covers : goal.returns-then-covers
returns-then-covers c =
    let hit = first_hit (covers c.args.self.now.words.now c.args.line c.args.level) _ _ c.loop-row-test.true (sym c.covers.ensures ∙ c.if-covers.true) in
    is_found _ _ _ (hit ∙ c.loop-row.invariant.1) (omega arith)

pub returns : goal.returns
returns c =
    let none = first-none (covers c.args.self.now.words.now c.args.line c.args.level) _ _ c.loop-row-test.false ∙ c.loop-row.invariant.1 in
    is_none _ _ (omega arith)
