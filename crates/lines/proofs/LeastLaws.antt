-- Laws of the least number with a property (specs/Inside.antt): of none, of one more number, of two properties one after the other; and of the
-- places that rows share. Assumes nothing.
use Prim.Native.Nat.{ℕ, ◌+◌, ◌*◌, ◌≤◌, min}
use mathlib.Core.List.{List}
use mathlib.Core.Path.{◌≡◌, refl, subst}
use native.Mathlib.Omega.{arith}
use Rattle.model.proofs.TestLaws.{below_or, same_or}
use Rattle.lines.specs.Inside.{Least, Share, SharedAt, SharedBelow, SharedAmong}
use Rattle.lines.specs.Lines.{line}

pub least_of_none : (P : ℕ → Type 0) (b : ℕ) → ((k : ℕ) → P k → ⊥) → Least P b b
least_of_none P b none = record { most = omega arith; found = λ l. absurd (omega arith); least = λ k h. absurd (none k h) }

-- the lesser of a bound l and the least number z
pub least_lesser : (P : ℕ → Type 0) (b l z r : ℕ) → Least P b z → l ≤ b → r ≡ min l z → Least P l r
least_lesser P b l z r h k e =
    below_or l z
    (λ less. record { most = omega arith; found = λ u. absurd (omega arith); least = λ j p. let u = h.least j p in omega arith })
    (λ not-less.
    let same : z ≡ r = omega arith in
    record { most = omega arith; found = λ u. subst P same (h.found (omega arith)); least = λ j p. let u = h.least j p in omega arith })

-- of P below b, then of Q below that; R holds where P or Q does
module _ (P Q R : ℕ → Type 0) (b l r : ℕ) where
  pub least_then : Least P b l → Least Q l r → ((k : ℕ) → P k → R k) → ((k : ℕ) → Q k → R k) → ((k : ℕ) → R k → (P k → r ≤ k) → (Q k → r ≤ k) → r ≤ k)
      → Least R b r
  least_then h g of-first of-second either =
      let most = h.most in
      let less = g.most in
      record {
        most = omega arith;
        found = λ u.
            below_or r l
            (λ v. of-second r (g.found v))
            (λ v. let same : l ≡ r = omega arith in of-first r (subst P same (h.found (omega arith))));
        least = λ k x. either k x (λ p. let u = h.least k p in omega arith) (g.least k);
      }

-- ---- shared places

module _ (t : List ℕ) (i : ℕ) where
  pub none_below : (b : ℕ) → Least (SharedBelow t i 0) b b
  none_below b = least_of_none (SharedBelow t i 0) b (λ k (j, l, h). absurd (omega arith))

  -- one row more to share with
  pub shared_below : (j b l r : ℕ) → Least (SharedBelow t i j) b l → Least (SharedAt t i j) l r → Least (SharedBelow t i (j + 1)) b r
  shared_below j b l r h g =
      least_then (SharedBelow t i j) (SharedAt t i j) (SharedBelow t i (j + 1)) b l r h g
      (λ k (m, u, x). (m, omega arith, x))
      (λ k x. (j, omega arith, x))
      (λ k (m, u, x) f e.
      same_or m j (λ same. e (subst (λ (q : ℕ). SharedAt t i q k) same x)) (λ differ. f (m, omega arith, x)))

  -- where rows i and j share no level, and where x is the lowest that they share
  pub shared_none : (j b : ℕ) → ((n x : ℕ) → Share t i j n x → ⊥) → Least (SharedAt t i j) b b
  shared_none j b none = least_of_none (SharedAt t i j) b (λ k (n, x, share, e). none n x share)

  pub shared_from : (j x b : ℕ) → Share t i j (line t i) x → 65536 * line t i + x ≤ b → ((n y : ℕ) → Share t i j n y → x ≤ y)
      → Least (SharedAt t i j) b (65536 * line t i + x)
  shared_from j x b share most lowest =
      record {
        most = most;
        found = λ _. (line t i, x, share, refl);
        least = λ k (n, y, other, e). let l = lowest n y other in let same = other.line_is in omega arith;
      }

pub none-among : (t : List ℕ) (b : ℕ) → Least (SharedAmong t 0) b b
none-among t b = least_of_none (SharedAmong t 0) b (λ k (i, l, h). absurd (omega arith))

-- one row more
pub shared_among : (t : List ℕ) (i b l r : ℕ) → Least (SharedAmong t i) b l → Least (SharedBelow t i i) l r → Least (SharedAmong t (i + 1)) b r
shared_among t i b l r h g =
    least_then (SharedAmong t i) (SharedBelow t i i) (SharedAmong t (i + 1)) b l r h g
    (λ k (m, u, x). (m, omega arith, x))
    (λ k x. (i, omega arith, x))
    (λ k (m, u, x) f e. same_or m i (λ same. e (subst (λ (q : ℕ). SharedBelow t q q k) same x)) (λ differ. f (m, omega arith, x)))
