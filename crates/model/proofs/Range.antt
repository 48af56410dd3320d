-- Ranges of numbers: what holds of each number of a range, one by one, holds of every number in it; and a number that is none
-- of a range and not below it is past it. The arms of a `match` over numbers are proved by these. Assumes nothing.
use Prim.Native.Nat.{ℕ, zero, suc, ◌+◌, ◌≤◌, ◌<◌}
use mathlib.Core.Bool.{Bool, true, false}
use mathlib.Core.Path.{◌≡◌, subst, refl}
use native.Mathlib.Omega.{arith}
use borrow.Author.Tests.{eqb-true, eqb-false}
use lib.Dec.{eqb}

-- P at lo, lo + 1, .. , of which there are n
abbrev pub Each : (ℕ → Type 0) → ℕ → ℕ → Type 0
Each P lo zero = Unit {0}
Each P lo (suc n) = P lo × Each P (suc lo) n

pub within : (P : ℕ → Type 0) (lo n x : ℕ) → Each P lo n → lo ≤ x → x < lo + n → P x
within P lo zero x e l h = absurd (omega arith)
within P lo (suc n) x e l h = go (eqb lo x) refl (λ later. within P (suc lo) n x e.1 later (omega arith))
  where
    go : (b : Bool) → eqb lo x ≡ b → (suc lo ≤ x → P x) → P x
    go true t rest = subst P (eqb-true lo x t) e.0
    go false t rest = let other : lo ≡ x → ⊥ = eqb-false lo x t in rest (omega arith)

-- x is none of lo, lo + 1, .. , of which there are n, as the last arm of a `match` has it; A is what its first arms say
abbrev pub Missed : Type 0 → ℕ → ℕ → ℕ → Type 0
Missed A x lo zero = A
Missed A x lo (suc n) = Missed A x lo n × (x ≡ lo + n → ⊥)

pub past : (A : Type 0) (x lo n : ℕ) → lo ≤ x → Missed A x lo n → lo + n ≤ x
past A x lo zero l m = omega arith
past A x lo (suc n) l m = omega (arith, past A x lo n l m.0, m.1)
