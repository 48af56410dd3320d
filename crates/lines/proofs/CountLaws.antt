-- Laws of the counts and searches of specs/Lines.antt and of checks in a row: what a count says of the numbers that it counts, where a search
-- ends, and which refusal of a row is the first. Assumes nothing.
use Prim.Native.Nat.{ℕ, zero, suc, ◌+◌, ◌-◌, ◌≤◌, ◌<◌}
use mathlib.Core.Bool.{Bool, true, false}
use mathlib.Core.Path.{◌≡◌, refl, sym, subst, ◌∙◌}
use native.Mathlib.Nat.{add-zero, zero-add}
use native.Mathlib.Numerals.{add-one}
use native.Mathlib.Omega.{arith}
use borrow.Author.Tests.{lt-ltb, le-ltb, ltb-true, ltb-false}
use lib.Dec.{ltb}
use Rattle.model.proofs.TestLaws.{pick_true, pick-false, impossible, then_skip, then_passed, each-passed, same_or}
use Rattle.model.specs.Test.{pick, ◌then◌, each, in_turn}
use Rattle.model.specs.Types.{Checked, Err, None, Ok, Some}
use Rattle.model.specs.declared.Refusal.{Refusal}
use Rattle.lines.specs.Lines.{count, first}

-- a test, by what it gives
pub by_test {ℓ} : {X : Type ℓ} (b : Bool) → (b ≡ true → X) → (b ≡ false → X) → X
by_test true f g = f refl
by_test false f g = g refl

module _ (f : ℕ → Bool) where
  -- ---- count

  count_yes : (k : ℕ) → f k ≡ true → count f (suc k) ≡ suc (count f k)
  unfolding count
  count_yes k e = pick_true _ _ e

  count_no : (k : ℕ) → f k ≡ false → count f (suc k) ≡ count f k
  unfolding count
  count_no k e = pick-false _ _ e

  count-zero : count f 0 ≡ 0
  unfolding count
  count-zero = refl

  -- one number more never lowers it
  count_grows : (k : ℕ) → count f k ≤ count f (suc k)
  count_grows k = by_test (f k) (λ e. omega (arith, count_yes k e)) (λ e. omega (arith, count_no k e))

  pub one-counts : (k i : ℕ) → i < k → f i ≡ true → 1 ≤ count f k
  one-counts zero i l e = absurd (omega arith)
  one-counts (suc k) i l e =
      same_or i k
      (λ same. omega (arith, count_yes k (subst (λ (j : ℕ). f j ≡ true) same e)))
      (λ differ. omega (arith, one-counts k i (omega arith) e, count_grows k))

  pub two-count : (k i j : ℕ) → i < j → j < k → f i ≡ true → f j ≡ true → 2 ≤ count f k
  two-count zero i j l m e g = absurd (omega arith)
  two-count (suc k) i j l m e g =
      same_or j k
      (λ same. omega (arith, count_yes k (subst (λ (h : ℕ). f h ≡ true) same g), one-counts k i (omega arith) e))
      (λ differ. omega (arith, two-count k i j l (omega arith) e g, count_grows k))

  pub none-count : (k : ℕ) → ((i : ℕ) → i < k → f i ≡ false) → count f k ≡ 0
  none-count zero all = count-zero
  none-count (suc k) all = count_no k (all k (omega arith)) ∙ none-count k (λ i l. all i (omega arith))

  pub some_counted : (k : ℕ) → 1 ≤ count f k → (i : ℕ) × (i < k) × (f i ≡ true)
  some_counted zero h = absurd (omega (arith, count-zero))
  some_counted (suc k) h =
      by_test (f k)
      (λ e. (k, omega arith, e))
      (λ e. let (i, l, g) = some_counted k (omega (arith, count_no k e)) in (i, omega arith, g))

  pub two-counted : (k : ℕ) → 2 ≤ count f k → (i : ℕ) × (j : ℕ) × (i < j) × (j < k) × (f i ≡ true) × (f j ≡ true)
  two-counted zero h = absurd (omega (arith, count-zero))
  two-counted (suc k) h =
      by_test (f k)
      (λ e. let (i, l, g) = some_counted k (omega (arith, count_yes k e)) in (i, k, l, omega arith, g, e))
      (λ e. let (i, j, l, m, g, h') = two-counted k (omega (arith, count_no k e)) in (i, j, l, omega arith, g, h'))

  -- ---- first: a loop that has come to number i of n

  module _ (n i : ℕ) where
    first-suc : i < n → first f i (n - i) ≡ pick (f i) i (first f (i + 1) (n - (i + 1)))
    unfolding first
    first-suc h = let e : n - i ≡ suc (n - (i + 1)) = omega arith in rw (e, add-one i)

    pub first_hit : i < n → f i ≡ true → i ≡ first f i (n - i)
    first_hit h e = sym (first-suc h ∙ pick_true _ _ e)

    pub first_miss : i < n → f i ≡ false → first f (i + 1) (n - (i + 1)) ≡ first f i (n - i)
    first_miss h e = sym (first-suc h ∙ pick-false _ _ e)

    pub first-none : n ≤ i → i ≡ first f i (n - i)
    unfolding first
    first-none h = let e : n - i ≡ 0 = omega arith in rw e

  -- the same as a set of rules
  pub ruleset by_first = (first_hit, first_miss, first-none)

  -- where it ends before all are tried, the test is passed; where it doesn't, none passes
  pub first_passes : (i k : ℕ) → first f i k < i + k → f (first f i k) ≡ true
  unfolding first
  first_passes i zero h = absurd (omega arith)
  first_passes i (suc k) h =
      by_test (f i)
      (λ e. subst (λ (j : ℕ). f j ≡ true) (sym (pick_true i (first f (suc i) k) e)) e)
      (λ e.
      let is = pick-false i (first f (suc i) k) e in
      subst (λ (j : ℕ). f j ≡ true) (sym is) (first_passes (suc i) k (omega (arith, is))))

  pub none_passes : (i k j : ℕ) → i + k ≤ first f i k → j < k → f (i + j) ≡ false
  unfolding first
  none_passes i zero j h l = absurd (omega arith)
  none_passes i (suc k) j h l =
      by_test (f i)
      (λ e. absurd (omega (arith, pick_true i (first f (suc i) k) e)))
      (λ e.
      same_or j 0
      (λ same. rw (same, add-zero i) e)
      (λ differ.
      let r : f (suc i + (j - 1)) ≡ false = none_passes (suc i) k (j - 1) (omega (arith, pick-false i (first f (suc i) k) e)) (omega arith) in
      let at : suc i + (j - 1) ≡ i + j = omega arith in
      subst (λ (h : ℕ). f h ≡ false) at r))

-- ---- checks in a row

module _ (f : ℕ → Checked) where
  accepts_from : (i k : ℕ) → ((j : ℕ) → j < k → f (i + j) ≡ Ok tt) → each f i k ≡ Ok tt
  unfolding each
  accepts_from i zero all = refl
  accepts_from i (suc k) all =
      let here : f i ≡ (Ok tt) = subst (λ (h : ℕ). f h ≡ Ok tt) (add-zero i) (all 0 (omega arith)) in
      then_passed here
      (accepts_from (suc i) k
      (λ j l. let at : i + suc j ≡ suc i + j = omega arith in subst (λ (h : ℕ). f h ≡ Ok tt) at (all (suc j) (omega arith))))

  refuses_from : (i k j : ℕ) (r : Refusal) → j < k → ((m : ℕ) → m < j → f (i + m) ≡ Ok tt) → f (i + j) ≡ Err r
      → each f i k ≡ Err r
  unfolding each in_turn
  refuses_from i zero j r l before e = absurd (omega arith)
  refuses_from i (suc k) zero r l before e =
      let here : f i ≡ Err r = subst (λ (h : ℕ). f h ≡ Err r) (add-zero i) e in
      rw here
  refuses_from i (suc k) (suc j) r l before e =
      let here : f i ≡ (Ok tt) = subst (λ (h : ℕ). f h ≡ Ok tt) (add-zero i) (before 0 (omega arith)) in
      let there : i + suc j ≡ suc i + j = omega arith in
      then_skip _ here
      ∙ refuses_from (suc i) k j r (omega arith)
      (λ m h. let at : i + suc m ≡ suc i + m = omega arith in subst (λ (h : ℕ). f h ≡ Ok tt) at (before (suc m) (omega arith)))
      (subst (λ (h : ℕ). f h ≡ Err r) there e)

  -- all of the first k accept
  pub all-accept : (k : ℕ) → ((j : ℕ) → j < k → f j ≡ Ok tt) → each f 0 k ≡ Ok tt
  all-accept k all = accepts_from 0 k (λ j l. rw zero-add (all j l))

  pub accepted-all : (k j : ℕ) → each f 0 k ≡ Ok tt → j < k → f j ≡ Ok tt
  accepted-all k j e l = rw zero-add at (each-passed f 0 k j e l)

-- check j refuses and those before it accept
pub record FirstRefuses (f : ℕ → Checked) (k j : ℕ) (r : Refusal) : Type 0 where
  pub there : j < k
  pub refuses : f j ≡ Err r
  pub before : (m : ℕ) → m < j → f m ≡ Ok tt

module _ (f : ℕ → Checked) (k : ℕ) (r : Refusal) where
  pub first_refuses : (j : ℕ) → FirstRefuses f k j r → each f 0 k ≡ Err r
  first_refuses j h = refuses_from f 0 k j r h.there (λ m l. rw zero-add (h.before m l)) (rw zero-add h.refuses)

-- a refusal of two checks in a row is the first's, or the second's where the first accepts
pub then_refused {ℓ} : {X : Type ℓ} (a b : Checked) (r : Refusal) → (a then b) ≡ Err r → (a ≡ Err r → X)
    → (a ≡ Ok tt → b ≡ Err r → X) → X
unfolding in_turn
then_refused (Ok _) b r e f g = g refl e
then_refused (Err q) b r e f g = f e

refused_from : (f : ℕ → Checked) (i k : ℕ) (r : Refusal) → each f i k ≡ Err r
    → (j : ℕ) × FirstRefuses (λ m. f (i + m)) k j r
unfolding each
refused_from f i zero r e = impossible (cc)
refused_from f i (suc k) r e =
    then_refused (f i) (each f (suc i) k) r e
    (λ here. (0, record { there = omega arith; refuses = rw add-zero here; before = λ m l. absurd (omega arith) }))
    (λ here rest.
    let (j, h) = refused_from f (suc i) k r rest in
    let moved : (m : ℕ) → suc i + m ≡ i + suc m = λ m. omega arith in (
      suc j,
      record {
        there = let l = h.there in omega arith;
        refuses = subst (λ (m : ℕ). f m ≡ Err r) (moved j) h.refuses;
        before = λ m l.
            same_or m 0
            (λ same. subst (λ (q : ℕ). f (i + q) ≡ Ok tt) (sym same) (rw add-zero here))
            (λ differ.
            let at : suc i + (m - 1) ≡ i + m = omega arith in
            subst (λ (q : ℕ). f q ≡ Ok tt) at (h.before (m - 1) (omega arith)));
      },
    ))

pub refused_first : (f : ℕ → Checked) (k : ℕ) (r : Refusal) → each f 0 k ≡ Err r → (j : ℕ) × FirstRefuses f k j r
refused_first f k r e =
    let (j, h) = refused_from f 0 k r e in
    (j, record { there = h.there; refuses = rw zero-add at h.refuses; before = λ m l. rw zero-add at (h.before m l) })

-- ---- a place r that is there where it is below n

pub is_found : (r n i : ℕ) → i ≡ r → i < n → Some i ≡ pick (ltb r n) (Some r) None
is_found r n i e l = rw e (sym (pick_true (Some r) None (lt-ltb r n (omega arith))))

pub is_none : (r n : ℕ) → n ≤ r → None ≡ pick (ltb r n) (Some r) None
is_none r n l = sym (pick-false (Some r) None (le-ltb r n l))

pub found_is : (r n i : ℕ) → Some i ≡ pick (ltb r n) (Some r) None → (i ≡ r) × (r < n)
found_is r n i h =
    by_test (ltb r n)
    (λ e. let s : Some i ≡ Some r = h ∙ pick_true (Some r) None e in (cc, ltb-true r n e))
    (λ e. let s : Some i ≡ None = h ∙ pick-false (Some r) None e in impossible (cc))

pub none-is : (r n : ℕ) → None ≡ pick (ltb r n) (Some r) None → n ≤ r
none-is r n h =
    by_test (ltb r n)
    (λ e. let s : None ≡ Some r = h ∙ pick_true (Some r) None e in impossible (cc))
    (λ e. ltb-false r n e)
