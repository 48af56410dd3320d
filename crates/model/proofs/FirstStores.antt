-- Rows of stores: what one store of a row does (`storing` of specs/Device.antt), and "the first n stores of this list are made" as one
-- predicate, whatever it means that one is made. Assumes nothing.
use Prim.Native.Nat.{ℕ, zero, suc, ◌+◌, ◌<◌}
use mathlib.Core.Path.{◌≡◌}
use mathlib.Core.List.{List, [], ◌∷◌}
use native.Mathlib.Omega.{arith}
use borrow.Author.Tests.{eq-eqb, ne_eqb}
use lib.ListN.{length, get_or}
use Rattle.model.proofs.TestLaws.{pick_true, pick-false}
use Rattle.model.specs.Device.{out, storing}
use Rattle.model.specs.Store.{Write, none}
use Rattle.model.specs.Types.{Answer, Device}

-- the first n writes of a list are made
abbrev pub First : (Write → Type 0) → ℕ → List Write → Type 0
First Made zero ws = Unit {0}
First Made (suc n) [] = ⊥
First Made (suc n) (w ∷ ws) = Made w × First Made n ws

-- of each write of a list
abbrev pub Each : (Write → Type 0) → List Write → Type 0
Each Holds [] = Unit {0}
Each Holds (w ∷ ws) = Holds w × Each Holds ws

-- the same writes are made by another meaning of it
pub first_as : (Made Also : Write → Type 0) (ws : List Write) → Each (λ w. Made w → Also w) ws → (n : ℕ) → First Made n ws → First Also n ws
first_as Made Also ws h zero f = tt
first_as Made Also [] h (suc n) f = absurd f
first_as Made Also (w ∷ ws) h (suc n) f = (h.0 f.0, first_as Made Also ws h.1 n f.1)

module _ (ws : List Write) (c : ℕ) (d ended : Device) (a : Answer) where
  -- a store that isn't the last, and the last
  pub storing_goes : c + 1 < length ws → storing ws c d ended a ≡ out (get_or ws c none) d Answer.Stored
  unfolding storing
  storing_goes l =
      let e = ne_eqb (c + 1) (length ws) (omega arith) in
      λ i. out (get_or ws c none) (pick-false ended d e i) (pick-false a Answer.Stored e i)

  pub storing-ends : c + 1 ≡ length ws → storing ws c d ended a ≡ out (get_or ws c none) ended a
  unfolding storing
  storing-ends l =
      let e = eq-eqb (c + 1) (length ws) l in
      λ i. out (get_or ws c none) (pick_true ended d e i) (pick_true a Answer.Stored e i)
