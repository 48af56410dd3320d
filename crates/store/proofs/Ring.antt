-- Places of the ring by their number, as `queue::around` finds them: of a slot, and of a word of the queue. Assumes nothing.
use Prim.Native.Nat.{ℕ, ◌+◌, ◌-◌, ◌*◌, ◌<◌, ◌≤◌}
use mathlib.Core.List.{List}
use mathlib.Core.Logic.{◌⊎◌, inl, inr}
use mathlib.Core.Path.{◌≡◌, sym, ap, ◌∙◌}
use native.Mathlib.Omega.{arith}
use borrow.Author.Tests.{ltb-true, ltb-false}
use lib.Dec.{ltb}
use Rattle.model.proofs.RingLaws.{Forward, forward_is, Around, ring_index}
use Rattle.model.proofs.TestLaws.{pick_case}
use Rattle.model.specs.Program.{word}
use Rattle.model.specs.Store.{forward, ring_word, index, queue_at}
use Rattle.model.specs.Test.{pick}

-- at most once past the end
abbrev Wrapped : ℕ → ℕ → ℕ → Type 0
Wrapped ring place r = ((place < ring) × (r ≡ place)) ⊎ ((ring ≤ place) × (r ≡ place - ring))

pub wrapped : (ring place r : ℕ) → r ≡ pick (ltb place ring) place (place - ring) → Wrapped ring place r
wrapped ring place r e =
    pick_case (λ (x : ℕ). r ≡ x → Wrapped ring place r) (λ below same. inl (ltb-true _ _ below, same)) (λ not-below same. inr (ltb-false _ _ not-below, same)) e

pub slot_ahead : (q u i r : ℕ) → u ≤ q → i ≤ q → r ≡ pick (ltb (u + i) (q + 1)) (u + i) (u + i - (q + 1)) → r ≡ forward q u i
slot_ahead q u i r l m e = go (forward q u i) (forward_is q u i l m) (wrapped (q + 1) (u + i) r e)
  where
    go : (y : ℕ) → Forward q u i y → Wrapped (q + 1) (u + i) r → r ≡ y
    go y (inl f) (inl w) = omega arith
    go y (inl f) (inr w) = omega arith
    go y (inr f) (inl w) = omega arith
    go y (inr f) (inr w) = omega arith

module _ (q u c r : ℕ) (l : u ≤ q) (m : c ≤ 2 * q + 1) (e : r ≡ pick (ltb (2 * u + c) (2 * (q + 1))) (2 * u + c) (2 * u + c - 2 * (q + 1))) where
  pub word_in : r < 2 * (q + 1)
  word_in = go (wrapped (2 * (q + 1)) (2 * u + c) r e)
    where
      go : Wrapped (2 * (q + 1)) (2 * u + c) r → r < 2 * (q + 1)
      go (inl w) = omega arith
      go (inr w) = omega arith

  pub word_ahead : (s : List ℕ) → queue_at (word s 1) (word s 2) + r ≡ index s (ring_word q u c)
  word_ahead s =
      let (k, around, is) = ring_index s q u c l m in
      ap (λ (n : ℕ). queue_at (word s 1) (word s 2) + n) (go k around (wrapped (2 * (q + 1)) (2 * u + c) r e)) ∙ sym is
    where
      go : (k : ℕ) → Around q u c k → Wrapped (2 * (q + 1)) (2 * u + c) r → r ≡ k
      go k (inl a) (inl w) = omega arith
      go k (inl a) (inr w) = omega arith
      go k (inr a) (inl w) = omega arith
      go k (inr a) (inr w) = omega arith
