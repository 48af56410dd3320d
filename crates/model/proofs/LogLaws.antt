-- Laws of the log: what a search finds, and memory with the log's pairs laid over it, in order. Assumes nothing.
use Prim.Native.Nat.{ℕ, zero, suc, ◌+◌, ◌*◌, ◌≤◌, ◌<◌}
use mathlib.Core.Path.{◌≡◌, refl, sym, ap, ◌∙◌}
use mathlib.Core.Logic.{◌≢◌}
use mathlib.Core.Bool.{Bool, true, false}
use mathlib.Core.List.{List}
use native.Mathlib.Nat.{not-suc-le-zero}
use native.Mathlib.Omega.{arith}
use lib.Dec.{eqb}
use lib.ListN.{length, set, length-set}
use lib.Seq.{get_or-set_other, get_or-set_same, set-set, set_comm}
use borrow.Author.Tests.{eqb-true, eqb-false}
use Rattle.model.proofs.TestLaws.{pick_true, pick-false, same_or}
use Rattle.model.specs.Program.{word}
use Rattle.model.specs.Store.{find_from, find}
use Rattle.model.specs.Test.{pick}
use Rattle.model.specs.Types.{None, Option, Some}

-- pair j's address and value
abbrev pub addr : List ℕ → ℕ → ℕ
addr log j = word log (2 * j)

abbrev pub val : List ℕ → ℕ → ℕ
val log j = word log (2 * j + 1)

-- ---- the search

-- what a search of k pairs from pair j on says
abbrev Says : List ℕ → ℕ → ℕ → ℕ → Option ℕ → Type 0
Says log a j k (Some i) = (j ≤ i) × ((i < j + k) × (addr log i ≡ a))
Says log a j k None = (i : ℕ) → j ≤ i → i < j + k → addr log i ≢ a

find_from_lem : (log : List ℕ) (a j k : ℕ) → Says log a j k (find_from log a j k)
unfolding find_from
find_from_lem log a j zero = λ i l m. absurd (omega arith)
find_from_lem log a j (suc k) = step (eqb (addr log j) a) refl (find_from log a (suc j) k) (find_from_lem log a (suc j) k)
  where
    later : (f : Option ℕ) → eqb (addr log j) a ≡ false → Says log a (suc j) k f → Says log a j (suc k) f
    later (Some i) e s = (omega arith, (omega arith, s.1.1))
    later None e s = λ i l m. apart i l m (eqb i j) refl
      where
        apart : (i : ℕ) → j ≤ i → i < j + suc k → (b : Bool) → eqb i j ≡ b → addr log i ≢ a
        apart i l m true q = rw (eqb-true i j q) (eqb-false _ _ e)
        apart i l m false q = let ne : i ≢ j = eqb-false _ _ q in s i (omega arith) (omega arith)

    step : (b : Bool) → eqb (addr log j) a ≡ b → (f : Option ℕ) → Says log a (suc j) k f → Says log a j (suc k) (pick b (Some j) f)
    step true e f s = rw pick_true (omega arith, (omega arith, eqb-true _ _ e))
    step false e f s = rw pick-false (later f e s)

-- a pair that is found is one of the first n, with this address
pub find_pair : (log : List ℕ) (n a i : ℕ) → find log n a ≡ Some i → (i < n) × (addr log i ≡ a)
unfolding find
find_pair log n a i e = let s : Says log a 0 n (Some i) = rw e at (find_from_lem log a 0 n) in (omega arith, s.1.1)

-- where none is found, none of the first n has it
pub find_nothing : (log : List ℕ) (n a : ℕ) → find log n a ≡ None → (i : ℕ) → i < n → addr log i ≢ a
unfolding find
find_nothing log n a e i l = let s : Says log a 0 n None = rw e at (find_from_lem log a 0 n) in s i (omega arith) (omega arith)

-- ---- memory with the first k pairs laid over it, in order

pub overlay : List ℕ → List ℕ → ℕ → List ℕ
overlay m log zero = m
overlay m log (suc k) = set (overlay m log k) (addr log k) (val log k)

pub overlay_zero : (m log : List ℕ) → overlay m log 0 ≡ m
unfolding overlay
overlay_zero m log = refl

pub overlay_suc : (m log : List ℕ) (k : ℕ) → overlay m log (suc k) ≡ set (overlay m log k) (addr log k) (val log k)
unfolding overlay
overlay_suc m log k = refl

pub length_overlay : (m log : List ℕ) (k : ℕ) → length (overlay m log k) ≡ length m
unfolding overlay
length_overlay m log zero = refl
length_overlay m log (suc k) = length-set (overlay m log k) (addr log k) (val log k) ∙ length_overlay m log k

-- a word of the log past the first k pairs
pub overlay_other : (m log : List ℕ) (y x k : ℕ) → 2 * k ≤ y → overlay m (set log y x) k ≡ overlay m log k
unfolding overlay
overlay_other m log y x zero l = refl
overlay_other m log y x (suc k) l =
    rw (get_or-set_other log y (2 * k) x 0 (omega arith), get_or-set_other log y (2 * k + 1) x 0 (omega arith), overlay_other m log y x k (omega arith))

-- what a later pair with the same address hides
hidden : (m log : List ℕ) (a x y k : ℕ) → set (overlay (set m a x) log k) a y ≡ set (overlay m log k) a y
hidden m log a x y zero = rw (overlay_zero, overlay_zero) (set-set m a x y)
hidden m log a x y (suc k) =
    let before = overlay (set m a x) log k in
    rw (overlay_suc (set m a x) log k, overlay_suc m log k)
    (same_or (addr log k) a
    (λ e. rw e (set-set before a (val log k) y ∙ hidden m log a x y k ∙ sym (set-set (overlay m log k) a (val log k) y)))
    (λ ne.
    set_comm before (addr log k) a (val log k) y ne
    ∙ ap (λ (l : List ℕ). set l (addr log k) (val log k)) (hidden m log a x y k)
    ∙ sym (set_comm (overlay m log k) (addr log k) a (val log k) y ne)))

-- Laying the whole log over memory forgets what one of its addresses held before.
overlay_forgets : (m log : List ℕ) (x i k : ℕ) → i < k → overlay (set m (addr log i) x) log k ≡ overlay m log k
overlay_forgets m log x i zero l = absurd (not-suc-le-zero l)
overlay_forgets m log x i (suc k) l =
    rw (overlay_suc (set m (addr log i) x) log k, overlay_suc m log k)
    (same_or i k (λ e. rw e (hidden m log (addr log k) x (val log k) k))
    (λ ne. ap (λ (l : List ℕ). set l (addr log k) (val log k)) (overlay_forgets m log x i k (omega arith))))

-- A copy that was begun can be begun again.
pub overlay_again : (m log : List ℕ) (c n : ℕ) → c ≤ n → overlay (overlay m log c) log n ≡ overlay m log n
overlay_again m log zero n l = rw overlay_zero
overlay_again m log (suc c) n l =
    rw (overlay_suc m log c) (overlay_forgets (overlay m log c) log (val log c) c n l ∙ overlay_again m log c n (omega arith))

-- ---- a log of l pairs with different addresses: reading, overwriting, appending

pub record Distinct (log : List ℕ) (l : ℕ) : Type 0 where
  pub apart : (i j : ℕ) → i < j → j < l → addr log i ≢ addr log j

pub overlay_elsewhere : (m log : List ℕ) (l x : ℕ) → ((i : ℕ) → i < l → addr log i ≢ x) → word (overlay m log l) x ≡ word m x
unfolding overlay
overlay_elsewhere m log zero x h = refl
overlay_elsewhere m log (suc l) x h =
    let ne : addr log l ≢ x = h l (omega arith) in
    get_or-set_other (overlay m log l) (addr log l) x (val log l) 0 (omega arith)
    ∙ overlay_elsewhere m log l x (λ i k. h i (omega arith))

module _ (m log : List ℕ) where
  pub overlay_pair : (l i : ℕ) → Distinct log l → addr log i < length m → i < l → word (overlay m log l) (addr log i) ≡ val log i
  unfolding overlay
  overlay_pair zero i d h k = absurd (not-suc-le-zero k)
  overlay_pair (suc l) i d h k =
      same_or i l
      (λ e.
      let f : addr log i ≡ addr log l = ap (addr log) e in
      rw e (get_or-set_same (overlay m log l) (addr log l) (val log l) 0 (omega (arith, length_overlay m log l))))
      (λ ne.
      get_or-set_other (overlay m log l) (addr log l) (addr log i) (val log l) 0 (d.apart i l (omega arith) (omega arith))
      ∙ overlay_pair l i (record { apart = λ x y s t. d.apart x y s (omega arith) }) h (omega arith))

  pub overlay_overwrite : (l i y : ℕ) → Distinct log l → 2 * l ≤ length log → i < l
      → overlay m (set log (2 * i + 1) y) l ≡ set (overlay m log l) (addr log i) y
  unfolding overlay
  overlay_overwrite zero i y d h k = absurd (not-suc-le-zero k)
  overlay_overwrite (suc l) i y d h k =
      let keeps : addr (set log (2 * i + 1) y) l ≡ addr log l = get_or-set_other log (2 * i + 1) (2 * l) y 0 (omega arith) in
      same_or i l
      (λ e.
      let v : val (set log (2 * i + 1) y) l ≡ y = rw (← e) (get_or-set_same log (2 * i + 1) y 0 (omega arith)) in
      rw (keeps, v, overlay_other m log (2 * i + 1) y l (omega arith), ap (addr log) e, set-set))
      (λ ne.
      let v : val (set log (2 * i + 1) y) l ≡ val log l = get_or-set_other log (2 * i + 1) (2 * l + 1) y 0 (omega arith) in
      rw (keeps, v, overlay_overwrite l i y (record { apart = λ x z s t. d.apart x z s (omega arith) }) (omega arith) (omega arith))
      (set_comm (overlay m log l) (addr log i) (addr log l) y (val log l) (d.apart i l (omega arith) (omega arith))))

  pub overlay_append : (l a y : ℕ) → 2 * l + 1 < length log → addr log l ≡ a
      → overlay m (set log (2 * l + 1) y) (suc l) ≡ set (overlay m log l) a y
  unfolding overlay
  overlay_append l a y h e =
      rw (get_or-set_other log (2 * l + 1) (2 * l) y 0 (omega arith), get_or-set_same log (2 * l + 1) y 0 h, e, overlay_other m log (2 * l + 1) y l (omega arith))
