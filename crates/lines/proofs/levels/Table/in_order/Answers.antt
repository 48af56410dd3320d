-- `levels::Table::in_order` meets its contract: rows in order part the levels. Assumes nothing.
use Rattle.std.proofs.Common.{◌≡◌, ℕ, ◌<◌, subst, sym, ◌∙◌, arith}
use borrow.Author.Tests.{eqb-true}
use Rattle.lines.proofs.OrderLaws.{Ordered, ordered_next, ordered_all}
use Rattle.lines.specs.Lines.{rows}
use Rattle.lines.proofs.levels.Table.in_order.Goals as goal

pub loop-row-preserved : goal.loop-row-preserved
loop-row-preserved c =
    let there : c.loop-row.row < rows c.args.self.now.words.now = omega arith in
    rw c.row-row.ensures (
      c.loop-row.invariant.0,
      ordered_next c.args.self.now.words.now _ _ _ c.loop-row.invariant.1 there (c.args.self.now.whole.in_order _ there) (sym c.follows.ensures ∙ c.if-not-follows.false),
    )

pub returns : goal.returns
returns c =
    λ e.
    let t = c.args.self.now.words.now in
    let all : c.loop-row.row ≡ rows t = omega arith in
    let full = eqb-true _ _ e in
    ordered_all t _ (subst (λ (x : ℕ). Ordered t (rows t) c.loop-row.from x) full (subst (λ (i : ℕ). Ordered t i c.loop-row.from c.loop-row.next) all c.loop-row.invariant.1))
