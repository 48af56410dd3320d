-- Laws of a table's rows one by one: a row that 30 accepts is a good one, and what 30 gives where it accepts them all. Assumes nothing.
use Prim.Native.Nat.{ℕ, ◌+◌, ◌-◌, ◌*◌, ◌<◌}
use mathlib.Core.List.{List}
use mathlib.Core.Path.{◌≡◌}
use lib.ListN.{length}
use native.Mathlib.Omega.{arith}
use borrow.Author.Tests.{ltb-true, leb-true, lt-ltb, le-leb}
use Rattle.model.proofs.TestLaws.{must_then, must-passed, must-true, then_passed, then_first, same_or}
use Rattle.model.specs.Types.{Ok}
use Rattle.lines.proofs.CountLaws.{all-accept, accepted-all}
use Rattle.lines.specs.Claims.{GoodRow}
use Rattle.lines.specs.Inside.{Whole}
use Rattle.lines.specs.Lines.{line, low, high, rows, row_rule, row_rules, check}

module _ (t : List ℕ) where
  pub accepted-row : (i : ℕ) → row_rule t i ≡ Ok tt → GoodRow t i
  unfolding row_rule
  accepted-row i e =
      let (a, e1) = must_then _ _ _ e in
      let (b, e2) = must_then _ _ _ e1 in
      let (c, e3) = must_then _ _ _ e2 in
      record {
        at_most_64 = ltb-true i 64 a;
        complete = leb-true (4 * i + 4) (length t) b;
        line_to_15 = leb-true (line t i) 15 c;
        low_to_high = leb-true (low t i) (high t i) (must-passed _ _ e3);
      }

  pub good_row_accepted : (i : ℕ) → GoodRow t i → row_rule t i ≡ Ok tt
  unfolding row_rule
  good_row_accepted i h =
      then_passed (must-true _ (lt-ltb i 64 h.at_most_64))
      (then_passed (must-true _ (le-leb (4 * i + 4) (length t) h.complete))
      (then_passed (must-true _ (le-leb (line t i) 15 h.line_to_15)) (must-true _ (le-leb (low t i) (high t i) h.low_to_high))))

  pub accepted-rows : row_rules t ≡ Ok tt → (i : ℕ) → i < rows t → GoodRow t i
  unfolding row_rules
  accepted-rows e i l = accepted-row i (accepted-all (row_rule t) (rows t) i e l)

  pub good_rows_accepted : ((i : ℕ) → i < rows t → GoodRow t i) → row_rules t ≡ Ok tt
  unfolding row_rules
  good_rows_accepted good = all-accept (row_rule t) (rows t) (λ i l. good_row_accepted i (good i l))

  pub rows_whole : row_rules t ≡ Ok tt → Whole t
  rows_whole e =
      let good = accepted-rows e in
      same_or (rows t) 0
      (λ none. record { words = omega arith; most = omega arith; named_lines = λ i l. (good i l).line_to_15; in_order = λ i l. (good i l).low_to_high })
      (λ some.
      let last = good (rows t - 1) (omega arith) in
      let within = last.at_most_64 in
      let complete = last.complete in
      record { words = omega arith; most = omega arith; named_lines = λ i l. (good i l).line_to_15; in_order = λ i l. (good i l).low_to_high })

  pub check_whole : check t ≡ Ok tt → Whole t
  unfolding check
  check_whole e = rows_whole (then_first _ _ e)

-- what an accepted row, and an accepted table, gives
pub ruleset gives = (accepted-row, rows_whole, check_whole)
