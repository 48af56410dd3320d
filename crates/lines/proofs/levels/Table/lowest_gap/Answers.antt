-- `levels::Table::lowest_gap` meets its contract: where no row covers a level it is the lowest, and a row that does is left behind. Assumes nothing.
use Rattle.std.proofs.Common.{arith, ◌≡◌, ap}
use Rattle.model.proofs.TestLaws.{below_or}
use Rattle.lines.proofs.LineLaws.{some-found, none-found, least-gap}
use Rattle.lines.specs.Lines.{high, levels}
use Rattle.lines.specs.declared.levels.Row.{Row}
use Rattle.lines.proofs.levels.Table.lowest_gap.Goals as goal

pub returns-in_default : goal.returns-in_default
unfolding levels
returns-in_default c = least-gap _ _ _ (omega arith) (λ _. none-found _ _ _ c.in_default.ensures) c.loop-row.invariant.1

pub returns-in_err-level : goal.returns-in_err-level
unfolding levels
returns-in_err-level c =
    let t = c.args.self.now.words.now in
    let here = some-found t c.args.line _ _ c.in-Some.ensures in
    let from = here.from_low in
    let high_is : c.row.result.high ≡ high t c.in-Some.row = ap (λ (r : Row). r.high) c.row.ensures in
    rw c.from_residual.ensures
    (least-gap t c.args.line 65536 (omega arith) (λ l. absurd (omega arith))
    (λ y l. below_or y c.loop-row.level (c.loop-row.invariant.1 y) (λ k. (c.in-Some.row, record { there = here.there; line_is = here.line_is; from_low = omega arith; to_high = omega (arith, c.in_err-level.ensures) }))))

pub loop-row-smaller : goal.loop-row-smaller
loop-row-smaller c = let at = some-found _ _ _ _ c.in-Some.ensures in let to_high = at.to_high in let high_is : c.row.result.high ≡ high c.args.self.now.words.now c.in-Some.row = ap (λ (r : Row). r.high) c.row.ensures in let e = c.in_ok-level.ensures in omega arith

pub loop-row-preserved : goal.loop-row-preserved
loop-row-preserved c =
    let t = c.args.self.now.words.now in
    let here = some-found t c.args.line _ _ c.in-Some.ensures in
    let from = here.from_low in
    let high_is : c.row.result.high ≡ high t c.in-Some.row = ap (λ (r : Row). r.high) c.row.ensures in
    let e = c.in_ok-level.ensures in (
      omega arith,
      λ y l. below_or y c.loop-row.level (c.loop-row.invariant.1 y) (λ k. (c.in-Some.row, record { there = here.there; line_is = here.line_is; from_low = omega arith; to_high = omega arith })),
    )
