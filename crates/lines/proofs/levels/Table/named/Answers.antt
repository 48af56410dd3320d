-- `levels::Table::named` meets its contract: the line of a row is the line, or of none. Assumes nothing.
use Rattle.std.proofs.Common.{◌≡◌, ℕ, false, sym, ap, subst, ◌∙◌, arith}
use borrow.Author.Tests.{ne_eqb}
use Rattle.model.proofs.TestLaws.{same_or}
use Rattle.lines.proofs.LineLaws.{named-true, unnamed}
use Rattle.lines.specs.Lines.{is_of}
use Rattle.lines.specs.declared.levels.Row.{Row}
use Rattle.lines.proofs.levels.Table.named.Goals as goal

pub returns-then-row-line : goal.returns-then-row-line
returns-then-row-line c = sym (named-true c.args.self.now.words.now c.args.line (c.loop-row.row, omega arith, ap (λ (r : Row). r.line) (sym c.row.ensures) ∙ c.if-row-line.true))

pub loop-row-preserved : goal.loop-row-preserved
unfolding is_of
loop-row-preserved c = (
  c.loop-row.invariant.0,
  λ j l.
      same_or j c.loop-row.row
      (λ same. subst (λ (h : ℕ). is_of c.args.self.now.words.now c.args.line h ≡ false) (sym same) (ne_eqb _ _ (λ e. c.if-row-line.false (ap (λ (r : Row). r.line) c.row.ensures ∙ e))))
      (λ differ. c.loop-row.invariant.1 j (omega arith)),
)

pub returns : goal.returns
returns c = sym (unnamed c.args.self.now.words.now c.args.line (λ j l. c.loop-row.invariant.1 j (omega arith)))
