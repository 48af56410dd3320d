-- `line::digit_byte` meets its contract. Assumes nothing.
use mathlib.Core.Path.{◌≡◌, sym, ap, ◌∙◌}
use native.Mathlib.Nat.{mul-le-mul}
use native.Mathlib.Omega.{arith}
use borrow.Author.Tests.{le-ltb, lt-ltb}
use Rattle.model.proofs.TestLaws.{pick_true, pick-false}
use Rattle.script.proofs.ReadingLaws.{value-small, holds_as}
use Rattle.script.specs.Script.{base, digit_byte}
use Rattle.script.proofs.line.digit_byte.Goals as goal

pub returns-then-digit-base : goal.returns-then-digit-base
unfolding digit_byte
returns-then-digit-base c =
    let its : c.base-base.result ≡ base c.args.reading.kind = c.base-base.ensures.value ∙ ap base (c.name_of.ensures.known c.requires.sized.kind_most) in
    λ words sizes. holds_as (c.mistaken.ensures words sizes) (sym (pick-false _ _ (rw (sym its, sym c.digit-digit.ensures) (le-ltb _ _ c.if-digit-base.true))))

pub overflow_mul-base : goal.overflow_mul-base
overflow_mul-base c = omega (arith, mul-le-mul c.base-base.ensures.upper_bound (value-small c.requires.sized))

pub overflow_add-base : goal.overflow_add-base
overflow_add-base c = omega (arith, mul-le-mul c.base-base.ensures.upper_bound (value-small c.requires.sized), c.base-base.ensures.upper_bound, c.if-digit-base.false)

pub larger-requires : goal.larger-requires
larger-requires c = c.requires.count_bound

pub returns : goal.returns
unfolding digit_byte
returns c =
    let its : c.base-base.result ≡ base c.args.reading.kind = c.base-base.ensures.value ∙ ap base (c.name_of.ensures.known c.requires.sized.kind_most) in
    λ words sizes. holds_as (c.larger.ensures words sizes) (rw (its, c.digit-digit.ensures) (sym (pick_true _ _ (rw (sym its, sym c.digit-digit.ensures) (lt-ltb _ _ c.if-digit-base.false)))))
