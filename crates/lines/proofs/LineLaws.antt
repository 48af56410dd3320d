-- Laws of line tables. Assumes nothing.
use Prim.Native.Nat.{ℕ, ◌+◌, ◌*◌, ◌≤◌, ◌<◌}
use mathlib.Core.Bool.{true, false}
use mathlib.Core.List.{List}
use mathlib.Core.Path.{◌≡◌, refl, sym, subst, ◌∙◌}
use lib.Dec.{eqb, leb, ltb}
use native.Mathlib.Omega.{arith}
use borrow.Author.Tests.{eqb-true, leb-true, leb-false, le-leb, lt-leb, eq-eqb}
use Rattle.model.proofs.TestLaws.{and_true, and_left, and_right, must-true, must_refuses, pick_true, pick-false, below_or}
use Rattle.model.specs.Test.{pick, ◌and◌, each}
use Rattle.model.specs.Types.{Checked, Err, None, Ok, Some}
use Rattle.model.specs.declared.Refusal.{Refusal}
use Rattle.lines.proofs.CountLaws.{by_test, one-counts, two-count, none-count, some_counted, two-counted, first_passes, none_passes, found_is, none-is, all-accept, first_refuses}
use Rattle.lines.specs.Claims.{Named, Covers, Covered, CoveredTwice}
use Rattle.lines.specs.Inside.{Least, Gap, Share, SharedAmong}
use Rattle.lines.specs.Lines.{line, low, high, rows, count, is_of, named, covers, coverage, gap_rule, overlap_rule, lines, levels, line_rule, line_rules, row_of}

module _ (t : List ℕ) (n : ℕ) where
  -- ---- a level's rows

  module _ (x : ℕ) where
    pub covers-true : (i : ℕ) → Covers t n x i → covers t n x i ≡ true
    unfolding covers
    covers-true i h =
        and_true (eq-eqb (line t i) n h.line_is) (and_true (le-leb (low t i) x h.from_low) (le-leb x (high t i) h.to_high))

    pub covers_is : (i : ℕ) → i < rows t → covers t n x i ≡ true → Covers t n x i
    unfolding covers
    covers_is i l e =
        let rest = and_right (eqb (line t i) n) (leb (low t i) x and leb x (high t i)) e in
        record {
          there = l;
          line_is = eqb-true (line t i) n (and_left (eqb (line t i) n) (leb (low t i) x and leb x (high t i)) e);
          from_low = leb-true (low t i) x (and_left (leb (low t i) x) (leb x (high t i)) rest);
          to_high = leb-true x (high t i) (and_right (leb (low t i) x) (leb x (high t i)) rest);
        }

    pub covered_counts : Covered t n x → 1 ≤ coverage t n x
    unfolding coverage
    covered_counts (i, h) = one-counts (covers t n x) (rows t) i h.there (covers-true i h)

    pub counted_covered : 1 ≤ coverage t n x → Covered t n x
    unfolding coverage
    counted_covered h = let (i, l, e) = some_counted (covers t n x) (rows t) h in (i, covers_is i l e)

    pub twice_counts : CoveredTwice t n x → 2 ≤ coverage t n x
    unfolding coverage
    twice_counts (i, j, l, h, k) = two-count (covers t n x) (rows t) i j l k.there (covers-true i h) (covers-true j k)

    pub counted_twice : 2 ≤ coverage t n x → CoveredTwice t n x
    unfolding coverage
    counted_twice h =
        let (i, j, l, m, e, g) = two-counted (covers t n x) (rows t) h in
        let k : i < rows t = omega arith in
        (i, j, l, covers_is i k e, covers_is j m g)

    -- the row that a search finds, and that there is none where it finds none
    pub row-found : (r : ℕ) → r ≡ row_of t n x → r < rows t → Covers t n x r
    unfolding row_of
    row-found r e l =
        covers_is r l (subst (λ (i : ℕ). covers t n x i ≡ true) (sym e) (first_passes (covers t n x) 0 (rows t) (omega arith)))

    pub row_missing : rows t ≤ row_of t n x → Gap t n x
    unfolding row_of coverage
    row_missing l =
        none-count (covers t n x) (rows t)
        (λ i k. subst (λ (h : ℕ). covers t n x h ≡ false) (omega arith) (none_passes (covers t n x) 0 (rows t) i (omega arith) k))

    -- the same of what a search that may find none finds
    pub some-found : (r : ℕ) → Some r ≡ pick (ltb (row_of t n x) (rows t)) (Some (row_of t n x)) None → Covers t n x r
    some-found r e = let at = found_is _ _ _ e in row-found r at.0 (omega arith)

    pub none-found : None ≡ pick (ltb (row_of t n x) (rows t)) (Some (row_of t n x)) None → Gap t n x
    none-found e = row_missing (none-is _ _ e)

  -- ---- a line's rows

  pub named-true : Named t n → named t n ≡ true
  unfolding named is_of
  named-true (i, l, e) = le-leb 1 (count (is_of t n) (rows t)) (one-counts (is_of t n) (rows t) i l (eq-eqb (line t i) n e))

  pub named_is : named t n ≡ true → Named t n
  unfolding named is_of
  named_is h =
      let (i, l, e) = some_counted (is_of t n) (rows t) (leb-true 1 (count (is_of t n) (rows t)) h) in
      (i, l, eqb-true (line t i) n e)

  pub unnamed : ((i : ℕ) → i < rows t → is_of t n i ≡ false) → named t n ≡ false
  unfolding named
  unnamed all = lt-leb 1 (count (is_of t n) (rows t)) (omega (arith, none-count (is_of t n) (rows t) all))

  -- ---- a line's rules

  pub no_gap : (x : ℕ) → Covered t n x → gap_rule t n x ≡ Ok tt
  unfolding gap_rule
  no_gap x h = must-true (Refusal.LinesGap n x) (le-leb 1 (coverage t n x) (covered_counts x h))

  pub a-gap : (x : ℕ) → Gap t n x → gap_rule t n x ≡ Err (Refusal.LinesGap n x)
  unfolding gap_rule
  a-gap x h = sym (must_refuses (Refusal.LinesGap n x) (lt-leb 1 (coverage t n x) (omega (arith, h))))

  pub no_overlap : (x : ℕ) → (CoveredTwice t n x → ⊥) → overlap_rule t n x ≡ Ok tt
  unfolding overlap_rule
  no_overlap x h =
      must-true (Refusal.LinesOverlap n x)
      (by_test (leb (coverage t n x) 1) (λ e. e) (λ e. absurd (h (counted_twice x (let l = leb-false (coverage t n x) 1 e in omega arith)))))

  pub an_overlap : (x : ℕ) → CoveredTwice t n x → overlap_rule t n x ≡ Err (Refusal.LinesOverlap n x)
  unfolding overlap_rule
  an_overlap x h =
      let l = twice_counts x h in
      sym (must_refuses (Refusal.LinesOverlap n x) (lt-leb (coverage t n x) 1 (omega arith)))

module _ (t : List ℕ) (rule : ℕ → ℕ → Checked) (n : ℕ) where
  pub unnamed_accepts : named t n ≡ false → line_rule t rule n ≡ Ok tt
  unfolding line_rule
  unnamed_accepts e = pick-false _ _ e

  pub named-each : named t n ≡ true → line_rule t rule n ≡ each (rule n) 0 levels
  unfolding line_rule
  named-each e = pick_true _ _ e

  pub line-accepts : ((x : ℕ) → Named t n → x < levels → rule n x ≡ Ok tt) → line_rule t rule n ≡ Ok tt
  line-accepts all =
      by_test (named t n)
      (λ e. named-each e ∙ all-accept (rule n) levels (λ x l. all x (named_is t n e) l))
      unnamed_accepts

-- ---- 31, of the lowest gap that a line has

pub least-gap : (t : List ℕ) (n r : ℕ) → r ≤ levels → (r < levels → Gap t n r) → ((x : ℕ) → x < r → Covered t n x) → Least (Gap t n) levels r
least-gap t n r most found below =
    record {
      most = most;
      found = found;
      least = λ x e. below_or x r (λ l. let k = covered_counts t n x (below x l) in absurd (omega arith)) (λ l. l);
    }

module _ (t : List ℕ) (n r : ℕ) (h : Least (Gap t n) levels r) where
  below_covered : (x : ℕ) → x < r → Covered t n x
  below_covered x l =
      counted_covered t n x
      (by_test (leb 1 (coverage t n x))
      (λ e. leb-true 1 (coverage t n x) e)
      (λ e. let k = leb-false 1 (coverage t n x) e in let g : Gap t n x = omega arith in let m = h.least x g in absurd (omega arith)))

  pub gap_refuses : named t n ≡ true → r < levels → Err (Refusal.LinesGap n r) ≡ line_rule t (gap_rule t) n
  gap_refuses e l =
      sym
      (named-each t (gap_rule t) n e
      ∙ first_refuses (gap_rule t n) levels (Refusal.LinesGap n r) r
      (record { there = l; refuses = a-gap t n r (h.found l); before = λ x k. no_gap t n x (below_covered x k) }))

  pub gap-accepts : levels ≤ r → (Ok tt) ≡ line_rule t (gap_rule t) n
  gap-accepts l = sym (line-accepts t (gap_rule t) n (λ x _ k. no_gap t n x (below_covered x (omega arith))))

-- what 31 is of a line, by whether it has rows and by its lowest gap
pub ruleset by_gap = (unnamed_accepts, gap_refuses, gap-accepts)

-- ---- 32, of the lowest place that rows share

pub twice_shared : (t : List ℕ) (n x : ℕ) → x < 65536 → CoveredTwice t n x → SharedAmong t (rows t) (65536 * n + x)
twice_shared t n x l (i, j, before, h, k) =
    let share : Share t j i n x =
    record {
      level = l;
      line_is = k.line_is;
      same_line = h.line_is;
      from_low = k.from_low;
      to_high = k.to_high;
      from_other_low = h.from_low;
      to_other_high = h.to_high;
    } in
    (j, k.there, (i, before, (n, x, share, refl)))

pub share_twice : (t : List ℕ) (i j n x : ℕ) → i < rows t → j < i → Share t i j n x → CoveredTwice t n x
share_twice t i j n x l before h = (
  j,
  i,
  before,
  record { there = omega arith; line_is = h.same_line; from_low = h.from_other_low; to_high = h.to_other_high },
  record { there = l; line_is = h.line_is; from_low = h.from_low; to_high = h.to_high },
)

module _ (t : List ℕ) (r : ℕ) (h : Least (SharedAmong t (rows t)) 1048576 r) where
  -- a level of a place below r is covered once at most
  once : (n x : ℕ) → x < 65536 → 65536 * n + x < r → overlap_rule t n x ≡ Ok tt
  once n x l k = no_overlap t n x (λ twice. let m = h.least (65536 * n + x) (twice_shared t n x l twice) in absurd (omega arith))

  pub overlap_refuses : ((i : ℕ) → i < rows t → line t i ≤ 15) → r < 1048576
      → (n : ℕ) × (x : ℕ) × (r ≡ 65536 * n + x) × (x < 65536) × (Err (Refusal.LinesOverlap n x) ≡ line_rules t (overlap_rule t))
  unfolding line_rules lines levels
  overlap_refuses to-15 l =
      let (i, there, (j, before, (n, x, share, e))) = h.found l in
      let level = share.level in
      let line_is = share.line_is in
      let at_most = to-15 i there in
      let inside : x < levels = level in
      let named-line = named-true t n (i, there, line_is) in
      let refuses =
      named-each t (overlap_rule t) n named-line
      ∙ first_refuses (overlap_rule t n) levels (Refusal.LinesOverlap n x) x
      (record {
        there = inside;
        refuses = an_overlap t n x (share_twice t i j n x there before share);
        before = λ y k. once n y (omega arith) (omega arith);
      }) in (
        n,
        x,
        e,
        level,
        sym
            (first_refuses (line_rule t (overlap_rule t)) lines (Refusal.LinesOverlap n x) n
            (record {
              there = let k : n < 16 = omega arith in k;
              refuses = refuses;
              before = λ m k. line-accepts t (overlap_rule t) m (λ y _ u. let v : y < 65536 = u in once m y v (omega arith));
            })),
      )

  pub overlap-accepts : 1048576 ≤ r → (Ok tt) ≡ line_rules t (overlap_rule t)
  unfolding line_rules lines levels
  overlap-accepts l =
      sym
      (all-accept (line_rule t (overlap_rule t)) lines
      (λ m k. line-accepts t (overlap_rule t) m (λ y _ u. let v : y < 65536 = u in let w : m < 16 = k in once m y v (omega arith))))
