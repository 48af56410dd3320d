-- The check accepts the good tables and no others, and a refusal names the first row, or the lowest line with its lowest level. Assumes nothing.
use Prim.Native.Nat.{ℕ, ◌<◌}
use mathlib.Core.Bool.{Bool, true, false}
use mathlib.Core.List.{List}
use mathlib.Core.Path.{◌≡◌, refl, sym, subst, ◌∙◌}
use native.Mathlib.Omega.{arith}
use borrow.Author.Tests.{leb-true, leb-false}
use Rattle.model.proofs.TestLaws.{impossible, below_or, must-passed, then_first, then_rest, then_passed}
use Rattle.model.specs.Test.{must}
use Rattle.model.specs.Types.{Checked, Err, Ok}
use Rattle.model.specs.declared.Refusal.{Refusal}
use Rattle.lines.proofs.CountLaws.{by_test, all-accept, accepted-all, FirstRefuses, refused_first, then_refused}
use Rattle.lines.proofs.LineLaws.{covered_counts, counted_covered, twice_counts, counted_twice, named-true, named_is, no_gap, no_overlap, unnamed_accepts, named-each, line-accepts}
use Rattle.lines.proofs.RowLaws.{accepted-row, good_row_accepted, accepted-rows, good_rows_accepted}
use Rattle.lines.specs.Claims.{Named, Covered, CoveredTwice, InOneRow, AcceptedIsGood, GoodIsAccepted, Blames, row, gap, overlap, RefusedIsBlamed}
use Rattle.lines.specs.Lines.{rows, row_rule, row_rules, named, coverage, gap_rule, overlap_rule, lines, levels, line_rule, line_rules, check}

accepted-refused {ℓ} : {X : Type ℓ} {c : Checked} {r : Refusal} → c ≡ Ok tt → c ≡ Err r → X
accepted-refused e f = impossible (cc)

must-refused : (b : Bool) (q r : Refusal) → must b q ≡ Err r → (b ≡ false) × (q ≡ r)
unfolding must
must-refused true q r e = impossible (cc)
must-refused false q r e = (refl, cc)

-- ---- a rule of every level of every named line

module _ (t : List ℕ) (rule : ℕ → ℕ → Checked) where
  pub rules-accepted : line_rules t rule ≡ Ok tt → (n x : ℕ) → n < lines → Named t n → x < levels → rule n x ≡ Ok tt
  unfolding line_rules
  rules-accepted e n x l named inside =
      accepted-all (rule n) levels x (sym (named-each t rule n (named-true t n named)) ∙ accepted-all (line_rule t rule) lines n e l) inside

  pub rules-accept : ((n x : ℕ) → Named t n → x < levels → rule n x ≡ Ok tt) → line_rules t rule ≡ Ok tt
  unfolding line_rules
  rules-accept all = all-accept (line_rule t rule) lines (λ n _. line-accepts t rule n (all n))

  -- the place that a refusal comes from
  record FirstPlace (r : Refusal) (n x : ℕ) : Type 0 where
    named : Named t n
    level : x < levels
    refuses : rule n x ≡ Err r
    below : (y : ℕ) → y < x → rule n y ≡ Ok tt
    lines_before : (m y : ℕ) → m < n → Named t m → y < levels → rule m y ≡ Ok tt

  line_refused : (n : ℕ) (r : Refusal) → line_rule t rule n ≡ Err r → Named t n × ((x : ℕ) × FirstRefuses (rule n) levels x r)
  line_refused n r e =
      by_test (named t n)
      (λ yes. (named_is t n yes, refused_first (rule n) levels r (sym (named-each t rule n yes) ∙ e)))
      (λ no. accepted-refused (unnamed_accepts t rule n no) e)

  first-place : (r : Refusal) → line_rules t rule ≡ Err r → (n : ℕ) × (x : ℕ) × FirstPlace r n x
  unfolding line_rules
  first-place r e =
      let (n, h) = refused_first (line_rule t rule) lines r e in
      let (names, (x, g)) = line_refused n r h.refuses in (
        n,
        x,
        record {
          named = names;
          level = g.there;
          refuses = g.refuses;
          below = g.before;
          lines_before = λ m y l named inside.
              accepted-all (rule m) levels y (sym (named-each t rule m (named-true t m named)) ∙ h.before m l) inside;
        },
      )

-- ---- what a level's rule says

module _ (t : List ℕ) (n x : ℕ) where
  gap-passed : gap_rule t n x ≡ Ok tt → Covered t n x
  unfolding gap_rule
  gap-passed e = counted_covered t n x (leb-true 1 (coverage t n x) (must-passed _ _ e))

  gap_blamed : (r : Refusal) → gap_rule t n x ≡ Err r → (Covered t n x → ⊥) × (Refusal.LinesGap n x ≡ r)
  unfolding gap_rule
  gap_blamed r e =
      let (few, is) = must-refused _ _ r e in
      (λ h. let l = covered_counts t n x h in let k = leb-false 1 (coverage t n x) few in omega arith, is)

  overlap-passed : overlap_rule t n x ≡ Ok tt → CoveredTwice t n x → ⊥
  unfolding overlap_rule
  overlap-passed e h = let l = twice_counts t n x h in let k = leb-true (coverage t n x) 1 (must-passed _ _ e) in omega arith

  overlap_blamed : (r : Refusal) → overlap_rule t n x ≡ Err r → CoveredTwice t n x × (Refusal.LinesOverlap n x ≡ r)
  unfolding overlap_rule
  overlap_blamed r e =
      let (many, is) = must-refused _ _ r e in
      (counted_twice t n x (let k = leb-false (coverage t n x) 1 many in omega arith), is)

  -- covered, and not twice
  one-row : Covered t n x → (CoveredTwice t n x → ⊥) → InOneRow t n x
  one-row (i, c) once = (
    i,
    c,
    λ j d.
        below_or i j
        (λ l. absurd (once (i, j, l, c, d)))
        (λ l. below_or j i (λ k. absurd (once (j, i, k, d, c))) (λ k. omega arith)),
  )

-- ---- good tables are those that are accepted

pub accepted_is_good : AcceptedIsGood
unfolding check lines
accepted_is_good t e =
    let good = accepted-rows t (then_first _ _ e) in
    let gaps = then_first _ _ (then_rest _ _ e) in
    let overlaps = then_rest _ _ (then_rest _ _ e) in
    record {
      good_rows = good;
      in_one_row = λ n x (i, there, is) inside.
          let few = (good i there).line_to_15 in
          let below : n < lines = let l : n < 16 = omega arith in l in
          one-row t n x
          (gap-passed t n x (rules-accepted t (gap_rule t) gaps n x below (i, there, is) inside))
          (overlap-passed t n x (rules-accepted t (overlap_rule t) overlaps n x below (i, there, is) inside));
    }

pub good_is_accepted : GoodIsAccepted
unfolding check
good_is_accepted t good =
    then_passed (good_rows_accepted t good.good_rows)
    (then_passed
    (rules-accept t (gap_rule t) (λ n x named inside. let (i, c, _) = good.in_one_row n x named inside in no_gap t n x (i, c)))
    (rules-accept t (overlap_rule t)
    (λ n x named inside.
    let (i, c, only) = good.in_one_row n x named inside in
    no_overlap t n x (λ (j, k, l, d, e). let a = only j d in let b = only k e in omega arith))))

-- ---- what a refusal names

row_blamed : (t : List ℕ) (i : ℕ) (r : Refusal) → row_rule t i ≡ Err r → Refusal.LinesRow i ≡ r
unfolding row_rule
row_blamed t i r e =
    then_refused _ _ r e (λ h. (must-refused _ _ r h).1)
    (λ _ e1.
    then_refused _ _ r e1 (λ h. (must-refused _ _ r h).1)
    (λ _ e2. then_refused _ _ r e2 (λ h. (must-refused _ _ r h).1) (λ _ e3. (must-refused _ _ r e3).1)))

rows_blamed : (t : List ℕ) (r : Refusal) → row_rules t ≡ Err r → Blames t r
unfolding row_rules
rows_blamed t r e =
    let (i, h) = refused_first (row_rule t) (rows t) r e in
    subst (Blames t) (row_blamed t i r h.refuses)
    (row i
    (record {
      there = h.there;
      bad = λ good. accepted-refused (good_row_accepted t i good) h.refuses;
      before = λ j l. accepted-row t j (h.before j l);
    }))

gaps_blamed : (t : List ℕ) (r : Refusal) → row_rules t ≡ Ok tt → line_rules t (gap_rule t) ≡ Err r → Blames t r
gaps_blamed t r good e =
    let (n, x, h) = first-place t (gap_rule t) r e in
    let (uncovered, is) = gap_blamed t n x r h.refuses in
    subst (Blames t) is
    (gap n x
    (record {
      good_rows = accepted-rows t good;
      named = h.named;
      level = h.level;
      gap = uncovered;
      below = λ y l. gap-passed t n y (h.below y l);
      lines_before = λ m y l named inside. gap-passed t m y (h.lines_before m y l named inside);
    }))

overlaps_blamed : (t : List ℕ) (r : Refusal) → row_rules t ≡ Ok tt → line_rules t (gap_rule t) ≡ Ok tt
    → line_rules t (overlap_rule t) ≡ Err r → Blames t r
unfolding lines
overlaps_blamed t r good covered e =
    let (n, x, h) = first-place t (overlap_rule t) r e in
    let (twice, is) = overlap_blamed t n x r h.refuses in
    let good-row = accepted-rows t good in
    subst (Blames t) is
    (overlap n x
    (record {
      good_rows = good-row;
      no_gap = λ m y (i, there, same) inside.
          let few = (good-row i there).line_to_15 in
          let below : m < lines = let l : m < 16 = omega arith in l in
          gap-passed t m y (rules-accepted t (gap_rule t) covered m y below (i, there, same) inside);
      overlap = twice;
      below = λ y l. overlap-passed t n y (h.below y l);
      lines_before = λ m y l inside (i, j, before, c, d).
          overlap-passed t m y (h.lines_before m y l (i, c.there, c.line_is) inside) (i, j, before, c, d);
    }))

pub refused_is_blamed : RefusedIsBlamed
unfolding check
refused_is_blamed t r e =
    then_refused _ _ r e
    (rows_blamed t r)
    (λ good rest.
    then_refused _ _ r rest
    (gaps_blamed t r good)
    (λ covered last. overlaps_blamed t r good covered last))
