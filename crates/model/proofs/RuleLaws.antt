-- Laws of the rules of 7 (specs/Control.antt): when one is obeyed, what a row of them answers. Assumes nothing.
use Prim.Native.Nat.{ℕ, zero, suc, ◌+◌, ◌<◌}
use mathlib.Core.Bool.{Bool, true, false, not}
use mathlib.Core.List.{List, [], ◌∷◌, ◌++◌}
use mathlib.Core.Logic.{⊎_elim}
use mathlib.Core.Path.{◌≡◌, refl, sym, ◌∙◌, ap}
use native.Mathlib.Nat.{eq-or-lt_of_le, le_of_suc-le-suc}
use native.Mathlib.Numerals.{add-one}
use native.Mathlib.Omega.{arith}
use Rattle.model.proofs.TestLaws.{pick_case, clash, and_false, not_false, must-true, must-passed, then_assoc, then_passed, then_first, then_rest}
use Rattle.model.specs.Control.{Rule, obey, obey_all, up_to, early_of}
use Rattle.model.specs.Test.{◌and◌, must, ◌then◌, in_turn, both}
use Rattle.model.specs.Types.{Checked, Err, Ok, Refusal}

-- ---- one rule: it isn't asked, it is kept, or it is broken

pub obey_unasked : (r : Rule) → r.asked ≡ false → obey r ≡ Ok tt
unfolding obey both
obey_unasked r e = must-true _ (rw e)

pub obey-kept : (r : Rule) → r.kept ≡ true → obey r ≡ Ok tt
unfolding obey
obey-kept r e = must-true _ (not_false (and_false r.asked (not r.kept) (ap not e)))

pub obey-broken : (r : Rule) {w : ℕ} → r.asked ≡ true → r.kept ≡ false → w ≡ r.word → Err (Refusal.Control w) ≡ obey r
unfolding obey both must
obey-broken r a k e = simp (a, k, e)

-- one that is obeyed is kept where it is asked, and the other way round
spoken : (a k : Bool) → not (a and not k) ≡ true → a ≡ true → k ≡ true
unfolding both
spoken true true e f = refl
spoken true false e f = e
spoken false k e f = clash f refl

pub obeyed : (r : Rule) → obey r ≡ Ok tt → r.asked ≡ true → r.kept ≡ true
unfolding obey
obeyed r e = spoken r.asked r.kept (must-passed _ _ e)

pub obey_if : (r : Rule) → (r.asked ≡ true → r.kept ≡ true) → obey r ≡ Ok tt
obey_if r f = go r.asked refl
  where
    go : (a : Bool) → r.asked ≡ a → obey r ≡ Ok tt
    go true e = obey-kept r (f e)
    go false e = obey_unasked r e

-- ---- a row of rules

pub obey_all-append : (rs ss : List Rule) → obey_all (rs ++ ss) ≡ (obey_all rs then obey_all ss)
unfolding obey_all in_turn
obey_all-append [] ss = refl
obey_all-append (r ∷ rs) ss =
    ap (λ (c : Checked). obey r then c) (obey_all-append rs ss) ∙ sym (then_assoc (obey r) (obey_all rs) (obey_all ss))

pub obey-append : (rs ss : List Rule) → obey_all rs ≡ Ok tt → obey_all ss ≡ Ok tt → obey_all (rs ++ ss) ≡ Ok tt
obey-append rs ss e f = obey_all-append rs ss ∙ then_passed e f

-- the rules f 0, f 1, .. as a loop goes through them
module _ (f : ℕ → Rule) where
  pub none-asked : obey_all (up_to f 0) ≡ Ok tt
  unfolding obey_all up_to
  none-asked = refl

  next : (i : ℕ) → obey_all (up_to f (suc i)) ≡ (obey_all (up_to f i) then (obey (f i) then (Ok tt)))
  unfolding obey_all up_to
  next i = obey_all-append (up_to f i) (f i ∷ [])

  pub one_more : (i : ℕ)
      → obey_all (up_to f i) ≡ Ok tt
      → obey (f i) ≡ Ok tt
      → obey_all (up_to f (i + 1)) ≡ Ok tt
  one_more i h e = rw add-one (next i ∙ then_passed h (then_passed e refl))

  pub stopped : {r : Refusal} (n i : ℕ)
      → i < n
      → obey_all (up_to f i) ≡ Ok tt
      → obey (f i) ≡ Err r
      → obey_all (up_to f n) ≡ Err r
  unfolding in_turn
  stopped zero i l h e = absurd (omega arith)
  stopped (suc n) i l h e =
      ⊎_elim (λ q. next n ∙ simp (rw q at h, rw q at e)) (λ q. next n ∙ simp (stopped n i q h e))
      (eq-or-lt_of_le (le_of_suc-le-suc l))

  pub obey-up_to : (n : ℕ) → ((j : ℕ) → j < n → obey (f j) ≡ Ok tt) → obey_all (up_to f n) ≡ Ok tt
  obey-up_to zero h = none-asked
  obey-up_to (suc n) h = next n ∙ then_passed (obey-up_to n (λ j l. h j (omega arith))) (then_passed (h n (omega arith)) refl)

-- ---- the early ones of a row

pub obey-early : (rs : List Rule) → obey_all rs ≡ Ok tt → obey_all (early_of rs) ≡ Ok tt
unfolding obey_all early_of
obey-early [] e = refl
obey-early (r ∷ rs) e =
    let rest = obey-early rs (then_rest _ _ e) in
    pick_case (λ (ss : List Rule). obey_all ss ≡ Ok tt) (λ _. then_passed (then_first _ _ e) rest) (λ _. rest)
