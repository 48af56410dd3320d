-- Laws of rows that stand in order: a row that goes on where those before it end leaves no gap and no overlap behind it, so a table of such rows
-- has none. Assumes nothing.
use Prim.Native.Nat.{ℕ, ◌+◌, ◌≤◌, ◌<◌}
use mathlib.Core.Bool.{true}
use mathlib.Core.List.{List}
use mathlib.Core.Path.{◌≡◌, sym, ap, subst, ◌∙◌}
use lib.Dec.{eqb}
use native.Mathlib.Omega.{arith}
use borrow.Author.Tests.{eqb-true, leb-true}
use Rattle.model.proofs.TestLaws.{pick_true, pick-false, and_left, and_right, below_or, same_or}
use Rattle.lines.proofs.CountLaws.{by_test, all-accept}
use Rattle.lines.proofs.LineLaws.{no_gap, no_overlap, line-accepts}
use Rattle.lines.specs.Claims.{Covers}
use Rattle.lines.specs.Inside.{follows, Partitioned}
use Rattle.lines.specs.Lines.{line, low, high, rows, lines, levels, gap_rule, overlap_rule, line_rule, line_rules}

-- The first i rows stand in order: they are of lines below n, each of which but n - 1 has every level, once; line n - 1 has those below x.
pub record Ordered (t : List ℕ) (i n x : ℕ) : Type 0 where
  pub lines_below : (j : ℕ) → j < i → line t j < n
  pub last_below : (j : ℕ) → j < i → line t j + 1 ≡ n → high t j < x
  pub full : (j y : ℕ) → j < i → line t j + 1 < n → y < 65536 → (m : ℕ) × (m < i) × Covers t (line t j) y m
  pub last_full : (m y : ℕ) → m + 1 ≡ n → y < x → (k : ℕ) × (k < i) × Covers t m y k
  pub apart : (j k y : ℕ) → j < k → k < i → line t j ≡ line t k → y ≤ high t j → low t k ≤ y → y ≤ high t k → low t j ≤ y → ⊥

module _ (t : List ℕ) where
  pub ordered_none : Ordered t 0 0 65536
  ordered_none =
      record {
        lines_below = λ j l. absurd (omega arith);
        last_below = λ j l. absurd (omega arith);
        full = λ j y l. absurd (omega arith);
        last_full = λ m y e. absurd (omega arith);
        apart = λ j k y l h. absurd (omega arith);
      }

  module _ (i n x : ℕ) (h : Ordered t i n x) (there : i < rows t) (fits : low t i ≤ high t i) where
    line-at : (j : ℕ) → j ≡ i → line t j ≡ line t i
    line-at j same = ap (λ (k : ℕ). line t k) same

    high-at : (j : ℕ) → j ≡ i → high t j ≡ high t i
    high-at j same = ap (λ (k : ℕ). high t k) same

    low-at : (j : ℕ) → j ≡ i → low t j ≡ low t i
    low-at j same = ap (λ (k : ℕ). low t k) same

    -- row i behind a line that has every level
    new_line : x ≡ 65536 → n ≤ line t i → low t i ≡ 0 → Ordered t (i + 1) (line t i + 1) (high t i + 1)
    new_line all higher from-0 =
        record {
          lines_below = λ j l. same_or j i (λ same. omega (arith, line-at j same)) (λ differ. let u = h.lines_below j (omega arith) in omega arith);
          last_below = λ j l e.
              same_or j i (λ same. omega (arith, high-at j same)) (λ differ. let u = h.lines_below j (omega arith) in absurd (omega arith));
          full = λ j y l e u.
              same_or j i
              (λ same. absurd (omega (arith, line-at j same)))
              (λ differ.
              below_or (line t j + 1) n
              (λ v. let (m, w, c) = h.full j y (omega arith) v u in (m, omega arith, c))
              (λ v.
              let w = h.lines_below j (omega arith) in
              let (m, k, c) = h.last_full (line t j) y (omega arith) (omega arith) in
              (m, omega arith, c)));
          last_full = λ m y e u.
              let same : line t i ≡ m = omega arith in
              (i, omega arith, record { there = there; line_is = same; from_low = omega arith; to_high = omega arith });
          apart = λ j k y l u same a b c d.
              same_or k i
              (λ e. let v = h.lines_below j (omega arith) in absurd (omega (arith, line-at k e)))
              (λ differ. h.apart j k y l (omega arith) same a b c d);
        }

    -- row i on the line of the row before it
    same_line : line t i + 1 ≡ n → low t i ≡ x → Ordered t (i + 1) (line t i + 1) (high t i + 1)
    same_line next from-x =
        record {
          lines_below = λ j l. same_or j i (λ same. omega (arith, line-at j same)) (λ differ. let u = h.lines_below j (omega arith) in omega arith);
          last_below = λ j l e.
              same_or j i (λ same. omega (arith, high-at j same)) (λ differ. let u = h.last_below j (omega arith) (omega arith) in omega arith);
          full = λ j y l e u.
              same_or j i
              (λ same. absurd (omega (arith, line-at j same)))
              (λ differ. let (m, w, c) = h.full j y (omega arith) (omega arith) u in (m, omega arith, c));
          last_full = λ m y e u.
              below_or y x
              (λ v. let (k, w, c) = h.last_full m y (omega arith) v in (k, omega arith, c))
              (λ v.
              let same : line t i ≡ m = omega arith in
              (i, omega arith, record { there = there; line_is = same; from_low = omega arith; to_high = omega arith }));
          apart = λ j k y l u same a b c d.
              same_or k i
              (λ e.
              let v = h.last_below j (omega arith) (omega (arith, line-at k e)) in
              absurd (omega (arith, low-at k e)))
              (λ differ. h.apart j k y l (omega arith) same a b c d);
        }

    pub ordered_next : follows t i n x ≡ true → Ordered t (i + 1) (line t i + 1) (high t i + 1)
    unfolding follows
    ordered_next e =
        by_test (eqb x 65536)
        (λ all.
        let f = sym (pick_true _ _ all) ∙ e in
        new_line (eqb-true x 65536 all) (leb-true n (line t i) (and_left _ _ f)) (eqb-true (low t i) 0 (and_right _ _ f)))
        (λ some.
        let f = sym (pick-false _ _ some) ∙ e in
        same_line (eqb-true (line t i + 1) n (and_left _ _ f)) (eqb-true (low t i) x (and_right _ _ f)))

  -- all rows, the last line with every level
  pub ordered_all : (n : ℕ) → Ordered t (rows t) n 65536 → Partitioned t
  unfolding line_rules levels
  ordered_all n h =
      record {
        no_gaps =
            all-accept (line_rule t (gap_rule t)) lines
            (λ m _. line-accepts t (gap_rule t) m
            (λ y (j, there, e) u.
            let v : y < 65536 = u in
            let w = h.lines_below j there in
            no_gap t m y
            (below_or (line t j + 1) n
            (λ less. let (k, _, c) = h.full j y there less v in (k, subst (λ (q : ℕ). Covers t q y k) e c))
            (λ last. let (k, _, c) = h.last_full m y (omega arith) v in (k, c)))));
        no_overlaps =
            all-accept (line_rule t (overlap_rule t)) lines
            (λ m _. line-accepts t (overlap_rule t) m
            (λ y _ u. no_overlap t m y
            (λ (j, k, before, c, d). h.apart j k y before d.there (c.line_is ∙ sym d.line_is) c.to_high d.from_low d.to_high c.from_low)));
      }
