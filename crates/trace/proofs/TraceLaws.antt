-- Laws of what is printed: a cell more, a line more, and a call by its number. Assumes nothing.
use Prim.Native.Nat.{ℕ, zero, suc, ◌+◌, ◌-◌, ◌<◌, ◌≤◌}
use mathlib.Core.Bool.{Bool}
use mathlib.Core.List.{List, [], ◌∷◌, ◌++◌, append_assoc, append-nil}
use mathlib.Core.Path.{◌≡◌, refl, sym, ap, ◌∙◌}
use native.Mathlib.Numerals.{add-one}
use native.Mathlib.Omega.{arith}
use borrow.Author.Tests.{le-leb}
use lib.ListN.{length, get_or, take, get_or-eq_default}
use lib.Seq.{take-suc}
use Rattle.model.proofs.TestLaws.{pick_true}
use Rattle.model.specs.Program.{word}
use Rattle.model.specs.Test.{pick}
use Rattle.script.specs.Script.{names, set_program_call}
use Rattle.text.proofs.TextLaws.{puts_as, puts_nothing, puts_then}
use Rattle.text.specs.Puts.{Puts}
use Rattle.text.specs.Text.{decimal}
use Rattle.trace.specs.Trace.{call_text, shown_counts, shown_numbers, answer_cell, line, call_line, tab, decimal_cells, memory_line, memory_lines}

-- ---- one cell more, one line more

cells-append : (xs ys : List ℕ) → decimal_cells (xs ++ ys) ≡ decimal_cells xs ++ decimal_cells ys
unfolding decimal_cells
cells-append [] ys = refl
cells-append (x ∷ xs) ys = ap (λ (l : List ℕ). (tab ∷ decimal x) ++ l) (cells-append xs ys) ∙ sym (append_assoc (tab ∷ decimal x) (decimal_cells xs) (decimal_cells ys))

cells-one : (w : ℕ) → decimal_cells (w ∷ []) ≡ tab ∷ decimal w
unfolding decimal_cells
cells-one w = append-nil (tab ∷ decimal w)

-- a loop that puts the cells one by one, and one that puts the lines
module _ {t u v : List ℕ} {n m k : ℕ} where
  pub cells_more : (words : List ℕ) (i : ℕ) → i < length words → Puts t n u m (decimal_cells (take i words)) → Puts u m v k (tab ∷ decimal (get_or words i 0)) → Puts t n v k (decimal_cells (take (i + 1) words))
  cells_more words i h a b =
      rw add-one (puts_as (puts_then a b) (sym (ap decimal_cells (take-suc words i 0 h) ∙ cells-append (take i words) _ ∙ ap (λ (l : List ℕ). decimal_cells (take i words) ++ l) (cells-one (get_or words i 0)))))

  pub lines_more : (tabs : Bool) (number : ℕ) (label memory : List ℕ) (i : ℕ) → Puts t n u m (memory_lines tabs number label memory i) → Puts u m v k (memory_line tabs number label memory i) → Puts t n v k (memory_lines tabs number label memory (i + 1))
  unfolding memory_lines
  lines_more tabs number label memory i a b = rw add-one (puts_then a b)

pub cells_none : (t : List ℕ) (n : ℕ) → Puts t n t n (decimal_cells [])
unfolding decimal_cells
cells_none t n = puts_nothing t n

pub lines_none : (t : List ℕ) (n : ℕ) (tabs : Bool) (number : ℕ) (label memory : List ℕ) → Puts t n t n (memory_lines tabs number label memory 0)
unfolding memory_lines
lines_none t n tabs number label memory = puts_nothing t n

pub ruleset by_cell = (cells_none, cells_more)

pub ruleset by_line = (lines_none, lines_more)

-- ---- a call's number that stands for a name, and one that stands for none

pub line_named : (tabs : Bool) (n kind first second steps : ℕ) (a s : List ℕ) → call_line tabs n (kind - 1 + 1) first second steps a s ≡ call_line tabs n kind first second steps a s
unfolding call_line call_text shown_numbers shown_counts answer_cell names pick
line_named tabs n zero first second steps a s = refl
line_named tabs n (suc k) first second steps a s =
    let same : suc k - 1 + 1 ≡ suc k = omega arith in
    ap (λ (kind : ℕ). call_line tabs n kind first second steps a s) same

names-length : length names ≡ 21
unfolding names
names-length = refl

no_name : (kind : ℕ) → 22 ≤ kind → get_or names (kind - 1) [] ≡ []
no_name kind h = let many : 21 ≤ kind - 1 = omega arith in get_or-eq_default names [] (rw names-length many)

no_shown : (kind : ℕ) → 22 ≤ kind → shown_numbers kind ≡ 0
unfolding shown_numbers shown_counts
no_shown kind h = let many : 18 ≤ kind = omega arith in get_or-eq_default shown_counts 0 many

no_call : (kind first second : ℕ) → 22 ≤ kind → call_text kind first second ≡ []
unfolding call_text pick
no_call kind first second h = rw (no_name kind h, no_shown kind h)

no_answer : (kind steps : ℕ) (a : List ℕ) → 22 ≤ kind → answer_cell kind steps a ≡ []
unfolding answer_cell
no_answer kind steps a h = let least : set_program_call ≤ kind = omega arith in pick_true _ _ (le-leb _ _ least)

pub line_unnamed : (tabs : Bool) (n kind first second steps : ℕ) (a s : List ℕ) → 22 ≤ kind → line tabs n [] [] s (word a 5) ≡ call_line tabs n kind first second steps a s
unfolding call_line
line_unnamed tabs n kind first second steps a s h = rw (no_call kind first second h, no_answer kind steps a h)
