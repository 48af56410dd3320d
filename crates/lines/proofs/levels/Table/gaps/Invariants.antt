-- `levels::Table::gaps` meets its contract. The invariant: what is left of the lines decides the answer. Assumes nothing.
use Rattle.std.proofs.Common.{◌≡◌, ◌-◌}
use Rattle.model.specs.Test.{each}
use Rattle.lines.specs.Lines.{gap_rule, line_rule, line_rules}
use Rattle.lines.proofs.levels.Table.gaps.Given as goal

abbrev pub invariant-loop-line : goal.invariant-loop-line
invariant-loop-line l = each (line_rule l.self.words.now (gap_rule l.self.words.now)) l.line (16 - l.line) ≡ line_rules l.self.words.now (gap_rule l.self.words.now)
