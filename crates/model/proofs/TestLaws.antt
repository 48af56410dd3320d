-- Laws of the choices and checks of specs/Test.antt, and of the Bool tests that they are made of: what an accepted check says of its
-- parts, and what a function answers that makes the checks one by one. Assumes nothing.
use Prim.Native.Nat.{ℕ, zero, suc, ◌+◌, ◌-◌, ◌≤◌, ◌<◌}
use mathlib.Core.Path.{◌≡◌, refl, sym, subst, ap, ◌∙◌}
use mathlib.Core.Logic.{◌≢◌}
use mathlib.Core.Bool.{Bool, true, false, not}
use lib.Bits.{bit_or, or_zero_l, or_add_and, and_le_r}
use lib.Dec.{eqb, ltb}
use borrow.Author.Tests.{eqb-true, eqb-false, ltb-true, ltb-false, lt-ltb, le-ltb, le-leb, lt-leb, eq-eqb, ne_eqb}
use borrow.Author.Tests.{not-true as of-not-true, not-false as of_not_false}
use native.Mathlib.Nat.{not-suc-le-zero, le_of_suc-le-suc, add-zero, add-suc, suc-add}
use native.Mathlib.Numerals.{add-one}
use native.Mathlib.Omega.{arith}
use Rattle.model.specs.Test.{pick, ◌and◌, ◌or◌, must, ◌then◌, each, in_turn, both, either}
use Rattle.model.specs.Types.{Checked, Err, Ok, Refusal}

-- ---- pick: one law for every proof about a branch

pub pick_case {ℓ κ} : {A : Type ℓ} {b : Bool} {x y : A} (P : A → Type κ) → (b ≡ true → P x) → (b ≡ false → P y) → P (pick b x y)
unfolding pick
pick_case {b = true} P f g = f refl
pick_case {b = false} P f g = g refl

pub pick_true {ℓ} : {A : Type ℓ} {b : Bool} (x y : A) → b ≡ true → pick b x y ≡ x
unfolding pick
pick_true x y e = rw (e, pick)

pub pick-false {ℓ} : {A : Type ℓ} {b : Bool} (x y : A) → b ≡ false → pick b x y ≡ y
unfolding pick
pick-false x y e = rw (e, pick)

-- ---- tests

-- from a clash of constructors, which `cc` proves as 0 ≡ 1
pub impossible {ℓ} : {X : Type ℓ} → ◌≡◌ {A = ℕ} 0 1 → X
impossible e = absurd (omega arith)

pub clash {ℓ} : {X : Type ℓ} {b : Bool} → b ≡ true → b ≡ false → X
clash e f = impossible (cc)

pub and_true : {a b : Bool} → a ≡ true → b ≡ true → (a and b) ≡ true
unfolding both
and_true e f = rw (e, f)

pub and_left : (a b : Bool) → (a and b) ≡ true → a ≡ true
unfolding both
and_left true b e = refl
and_left false b e = e

pub and_right : (a b : Bool) → (a and b) ≡ true → b ≡ true
unfolding both
and_right true b e = e
and_right false b e = clash e refl

pub and_false : (a b : Bool) → b ≡ false → (a and b) ≡ false
unfolding both
and_false true b e = e
and_false false b e = refl

pub or_true_left : (a b : Bool) → a ≡ true → (a or b) ≡ true
unfolding either
or_true_left a b e = rw e

pub or_true_right : (a b : Bool) → b ≡ true → (a or b) ≡ true
unfolding either
or_true_right true b e = refl
or_true_right false b e = e

pub or_right : (a b : Bool) → a ≡ false → (a or b) ≡ true → b ≡ true
unfolding either
or_right true b e f = clash refl e
or_right false b e f = f

pub not_false : {b : Bool} → b ≡ false → not b ≡ true
not_false e = rw e

-- the bits of two numbers together are 0 where both are
pub both_zero : (a b : ℕ) → eqb (bit_or a b) 0 ≡ (eqb a 0 and eqb b 0)
unfolding both
both_zero zero b = rw (or_zero_l b)
both_zero (suc a) b =
    ne_eqb (bit_or (suc a) b) 0 (λ e. absurd (omega (arith, e, or_add_and (suc a) b, and_le_r (suc a) b)))
    ∙ sym (ap (λ (t : Bool). t and eqb b 0) (ne_eqb (suc a) 0 (λ e. absurd (omega (arith, e)))))

-- two numbers: equal or not, in one order or the other
pub same_or {ℓ} : {X : Type ℓ} (a b : ℕ) → (a ≡ b → X) → (a ≢ b → X) → X
same_or {X = X} a b f g = go (eqb a b) refl
  where
    go : (t : Bool) → eqb a b ≡ t → X
    go true e = f (eqb-true _ _ e)
    go false e = g (eqb-false _ _ e)

pub below_or {ℓ} : {X : Type ℓ} (a b : ℕ) → (a < b → X) → (b ≤ a → X) → X
below_or {X = X} a b f g = go (ltb a b) refl
  where
    go : (t : Bool) → ltb a b ≡ t → X
    go true e = f (ltb-true _ _ e)
    go false e = g (ltb-false _ _ e)

-- ---- an accepted check

pub must-true : {b : Bool} (r : Refusal) → b ≡ true → must b r ≡ Ok tt
unfolding must
must-true r e = rw e

pub must-passed : (b : Bool) (r : Refusal) → must b r ≡ Ok tt → b ≡ true
unfolding must
must-passed true r e = refl
must-passed false r e = impossible (cc)

pub then_passed : {a b : Checked} → a ≡ Ok tt → b ≡ Ok tt → (a then b) ≡ Ok tt
unfolding in_turn
then_passed e f = rw (e, f)

pub then_skip : {a : Checked} (b : Checked) → a ≡ Ok tt → (a then b) ≡ b
unfolding in_turn
then_skip b e = rw e

pub then_first : (a b : Checked) → (a then b) ≡ Ok tt → a ≡ Ok tt
unfolding in_turn
then_first (Ok _) b e = refl
then_first (Err r) b e = e

pub then_rest : (a b : Checked) → (a then b) ≡ Ok tt → b ≡ Ok tt
unfolding in_turn
then_rest (Ok _) b e = e
then_rest (Err r) b e = impossible (cc)

-- a check that starts with a test
pub must_then : (b : Bool) (r : Refusal) (y : Checked) → (must b r then y) ≡ Ok tt → (b ≡ true) × (y ≡ Ok tt)
must_then b r y e = (must-passed b r (then_first (must b r) y e), then_rest (must b r) y e)

pub each-passed : (f : ℕ → Checked) (i k j : ℕ) → each f i k ≡ Ok tt → j < k → f (i + j) ≡ Ok tt
unfolding each
each-passed f i zero j e h = absurd (not-suc-le-zero h)
each-passed f i (suc k) zero e h = rw add-zero (then_first _ _ e)
each-passed f i (suc k) (suc j) e h =
    let r : f (suc i + j) ≡ (Ok tt) = each-passed f (suc i) k j (then_rest _ _ e) (le_of_suc-le-suc h) in
    rw (add-suc i j, ← suc-add i j) r

-- ---- checks in a row

pub then_assoc : (a b c : Checked) → ((a then b) then c) ≡ (a then (b then c))
unfolding in_turn
then_assoc (Ok _) b c = refl
then_assoc (Err r) b c = refl

pub then_accepted : (a : Checked) → (a then (Ok tt)) ≡ a
unfolding in_turn
then_accepted (Ok _) = refl
then_accepted (Err r) = refl

-- ---- a function that makes the checks

-- from the facts that its tests leave to the tests of its definition
pub ruleset tests = (lt-ltb, le-ltb, le-leb, lt-leb, eq-eqb, ne_eqb)

-- a test t made by another function, which answered r, where the branch is on `not r`
pub passed : {r t : Bool} → r ≡ t → not r ≡ false → t ≡ true
passed {r} e h = sym e ∙ of_not_false r h

pub failed : {r t : Bool} → r ≡ t → not r ≡ true → t ≡ false
failed {r} e h = sym e ∙ of-not-true r h

-- its answer r, with what it gives where it accepts
pub answered : {P : Type 0} {x r : Checked} → (x ≡ Ok tt → P) → r ≡ x → (r ≡ x) × (r ≡ Ok tt → P)
answered law e = (e, λ a. law (sym e ∙ a))

-- a test at the end of a row, and one with more to come
pub must_refuses : {b : Bool} (r : Refusal) → b ≡ false → Err r ≡ must b r
unfolding must
must_refuses r e = rw e

pub must-accepts : {b : Bool} (r : Refusal) → b ≡ true → (Ok tt) ≡ must b r
must-accepts r e = sym (must-true r e)

pub must_stop : {b : Bool} (r : Refusal) (y : Checked) → b ≡ false → Err r ≡ (must b r then y)
unfolding must in_turn
must_stop r y e = rw e

pub must_go : {b : Bool} (r : Refusal) (y : Checked) → b ≡ true → y ≡ (must b r then y)
must_go r y e = sym (then_skip y (must-true r e))

-- a check x with more to come, of which the answer is r
pub then_stop : (x y : Checked) {r : Checked} {g : Refusal} → r ≡ x → r ≡ Err g → r ≡ (x then y)
unfolding in_turn
then_stop x y h t = rw (← h, t)

pub then_go : (x y : Checked) {r : Checked} → r ≡ x → r ≡ Ok tt → y ≡ (x then y)
then_go x y h t = sym (then_skip y (sym h ∙ t))

-- the same as a set of rules for the check of a function that ends with `?` or goes on
pub ruleset in_a_row = (then_stop, then_go, then_passed)

-- answers joined one by one, g after f and x, for the checks in a row: the last one, one before others, and the first
pub last : {g x a c : Checked} (f : Checked) → g ≡ (f then x) → x ≡ a → (f then a) ≡ c → g ≡ c
last f e h k = e ∙ rw h k

pub next : {g x a c : Checked} (f b : Checked) → g ≡ (f then x) → x ≡ a → (f then (a then b)) ≡ c → (g then b) ≡ c
next {g} {x} {a} {c} f b e h k = rw (e, then_assoc f x b, h) k

pub begin : {x a : Checked} (b : Checked) → x ≡ a → (x then b) ≡ (a then b)
begin b h = ap (λ (z : Checked). z then b) h

-- a loop through `each` that has come to check i of n
module _ (f : ℕ → Checked) (n i : ℕ) where
  pub each_none : n ≤ i → (Ok tt) ≡ each f i (n - i)
  unfolding each
  each_none h = let e : n - i ≡ 0 = omega arith in rw e

  each-suc : i < n → each f i (n - i) ≡ (f i then each f (i + 1) (n - (i + 1)))
  unfolding each
  each-suc h = let e : n - i ≡ suc (n - (i + 1)) = omega arith in rw (e, add-one i)

  pub each_stop : {r : Checked} {g : Refusal} → i < n → r ≡ f i → r ≡ Err g → r ≡ each f i (n - i)
  each_stop h a t = rw (each-suc h) (then_stop _ _ a t)

  pub each_go : {r : Checked} → i < n → r ≡ f i → r ≡ Ok tt → each f (i + 1) (n - (i + 1)) ≡ each f i (n - i)
  each_go h a t = rw (each-suc h) (then_go _ _ a t)

-- the same as a set of rules
pub ruleset by_each = (each_none, each_stop, each_go)

-- ---- what a check refuses with

-- every refusal of the check c is a P
pub record Refuses (P : Refusal → Type 0) (c : Checked) : Type 0 where
  pub with_such : (r : Refusal) → c ≡ Err r → P r

module _ {P : Refusal → Type 0} where
  pub refuses_accepted : Refuses P (Ok tt)
  refuses_accepted = record { with_such = λ r e. impossible (cc) }

  pub refuses_must : (b : Bool) (r : Refusal) → (b ≡ false → P r) → Refuses P (must b r)
  unfolding must
  refuses_must true r f = refuses_accepted
  refuses_must false r f = record { with_such = λ q e. let g : r ≡ q = cc in subst P g (f refl) }

  pub refuses_then : (a b : Checked) → Refuses P a → Refuses P b → Refuses P (a then b)
  unfolding in_turn
  refuses_then (Ok _) b f g = g
  refuses_then (Err r) b f g = f

  pub refuses_each : (f : ℕ → Checked) (i k : ℕ) → ((j : ℕ) → Refuses P (f j)) → Refuses P (each f i k)
  unfolding each
  refuses_each f i zero h = refuses_accepted
  refuses_each f i (suc k) h = refuses_then (f i) _ (h i) (refuses_each f (suc i) k h)
