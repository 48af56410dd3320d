-- `signed::divided` meets its contract: of a negative number, one more than it is divided toward zero, and one is taken off.
-- Every number on the way is small, so the machine reads it back whole. Assumes nothing.
use Prim.Native.Nat.{ℕ, zero, suc, ◌/◌, ◌^◌, ◌≤◌, ◌<◌}
use mathlib.Core.Path.{◌≡◌, refl, sym, ap, ◌∙◌}
use native.Mathlib.Nat.{zero-div, div-le_self}
use native.Mathlib.Omega.{arith}
use borrow.Author.Tests.{lt-ltb}
use lib.IntN.{ℤ, pos, negsuc, neg_ℤ, ◌+ℤ◌, ◌-ℤ◌}
use lib.Pow.{pow_pos, pow_mono}
use lib.Signed.{mag, quot_z, shr_z}
use mir.Syntax.{w32}
use mir.Val.{to_z, of_z}
use Rattle.signed.proofs.TwosComplement.{read_back, below-zero, from_zero}
use Rattle.signed.proofs.divided.Goals.{Else-number-lt0, Then-number-lt0}
use Rattle.signed.proofs.divided.Goals as goal

-- ---- -(n + 1), plus one, divided, minus one

plus_one : (n : ℕ) → negsuc n +ℤ pos 1 ≡ neg_ℤ (pos n)
plus_one zero = refl
plus_one (suc n) = simp (lt-ltb 1 (suc (suc n)) (omega arith)) (ap negsuc (omega arith))

quotient : (n d : ℕ) → quot_z (neg_ℤ (pos n)) (pos d) ≡ neg_ℤ (pos (n / d))
quotient zero d = rw (zero-div d)
quotient (suc n) d = refl

minus_one : (q : ℕ) → neg_ℤ (pos q) -ℤ pos 1 ≡ negsuc q
minus_one zero = refl
minus_one (suc q) = ap negsuc (omega arith)

mag-minus : (n : ℕ) → mag (neg_ℤ (pos n)) ≤ n
mag-minus zero = omega arith
mag-minus (suc n) = omega arith

-- ---- The same as the machine reads it

abbrev back : ℤ → ℤ
back z = to_z w32 (of_z w32 z)

module _ (z e : ℤ) (k : ℕ) (small : mag z < 32768) (fits : k < 16) (is-d : e ≡ pos (2 ^ k)) where
  most : 2 ^ k ≤ 32768
  most = pow_mono {i = k} {j = 15} (omega arith)

  divisor : back e ≡ pos (2 ^ k)
  divisor = rw is-d (read_back (pos (2 ^ k)) (omega (arith, most)))

  some : 0 < of_z w32 e
  some = rw is-d (pow_pos k)

  quotient-small : mag z / 2 ^ k < 32768
  quotient-small = omega (arith, div-le_self (mag z) (2 ^ k))

  module _ (is-n : z ≡ negsuc (mag z)) where
    plus : back z +ℤ pos 1 ≡ neg_ℤ (pos (mag z))
    plus = rw (read_back z (omega arith)) (ap (λ (y : ℤ). y +ℤ pos 1) is-n ∙ plus_one (mag z))

    divides : quot_z (back (back z +ℤ pos 1)) (back e) ≡ neg_ℤ (pos (mag z / 2 ^ k))
    divides =
        rw (plus, read_back (neg_ℤ (pos (mag z))) (omega (arith, mag-minus (mag z))), divisor)
        (quotient (mag z) (2 ^ k))

    rounds : back (quot_z (back (back z +ℤ pos 1)) (back e)) -ℤ pos 1 ≡ negsuc (mag z / 2 ^ k)
    rounds =
        rw (divides, read_back (neg_ℤ (pos (mag z / 2 ^ k))) (omega (arith, mag-minus (mag z / 2 ^ k), quotient-small)))
        (minus_one (mag z / 2 ^ k))

    down : back (back (quot_z (back (back z +ℤ pos 1)) (back e)) -ℤ pos 1) ≡ shr_z z (2 ^ k)
    down =
        rw rounds
        (read_back (negsuc (mag z / 2 ^ k)) (omega (arith, quotient-small)) ∙ sym (ap (λ (y : ℤ). shr_z y (2 ^ k)) is-n))

  module _ (is-n : z ≡ pos (mag z)) where
    divides-up : quot_z (back z) (back e) ≡ pos (mag z / 2 ^ k)
    divides-up = rw (read_back z (omega arith), divisor) (ap (λ (y : ℤ). quot_z y (pos (2 ^ k))) is-n)

    up : back (quot_z (back z) (back e)) ≡ shr_z z (2 ^ k)
    up =
        rw divides-up
        (read_back (pos (mag z / 2 ^ k)) (omega (arith, quotient-small)) ∙ sym (ap (λ (y : ℤ). shr_z y (2 ^ k)) is-n))

-- ---- The needs

negative : (c : Then-number-lt0) → c.args.number ≡ negsuc (mag c.args.number)
negative c = below-zero c.args.number _ (omega arith) refl c.if-number-lt0.true

other : (c : Else-number-lt0) → c.args.number ≡ pos (mag c.args.number)
other c = from_zero c.args.number _ (omega arith) refl c.if-number-lt0.false

pub overflow_add-result : goal.overflow_add-result
overflow_add-result c =
    let a = c.args in
    let p = c.requires in
    rw (plus a.number c.power-divisor.result a.exponent p.small_number p.small_exponent c.power-divisor.ensures (negative c))
    (omega (arith, mag-minus (mag a.number)))

pub nonzero_div-result : goal.nonzero_div-result
nonzero_div-result c =
    let a = c.args in
    let p = c.requires in
    let d = c.power-divisor in (
      some a.number d.result a.exponent p.small_number p.small_exponent d.ensures,
      rw (divides a.number d.result a.exponent p.small_number p.small_exponent d.ensures (negative c))
          (omega (arith, mag-minus (mag a.number / 2 ^ a.exponent), div-le_self (mag a.number) (2 ^ a.exponent))),
    )

pub overflow_sub-result : goal.overflow_sub-result
overflow_sub-result c =
    let a = c.args in
    let p = c.requires in
    let d = c.power-divisor in
    rw (rounds a.number d.result a.exponent p.small_number p.small_exponent d.ensures (negative c))
    (omega (arith, div-le_self (mag a.number) (2 ^ a.exponent)))

pub nonzero_div-result-else-number-lt0 : goal.nonzero_div-result-else-number-lt0
nonzero_div-result-else-number-lt0 c =
    let a = c.args in
    let p = c.requires in
    let d = c.power-divisor in (
      some a.number d.result a.exponent p.small_number p.small_exponent d.ensures,
      rw (divides-up a.number d.result a.exponent p.small_number p.small_exponent d.ensures (other c))
          (omega (arith, div-le_self (mag a.number) (2 ^ a.exponent))),
    )

pub returns-then-number-lt0 : goal.returns-then-number-lt0
returns-then-number-lt0 c =
    let a = c.args in
    let p = c.requires in
    down a.number c.power-divisor.result a.exponent p.small_number p.small_exponent c.power-divisor.ensures (negative c)

pub returns-else-number-lt0 : goal.returns-else-number-lt0
returns-else-number-lt0 c =
    let a = c.args in
    let p = c.requires in
    up a.number c.power-divisor.result a.exponent p.small_number p.small_exponent c.power-divisor.ensures (other c)
