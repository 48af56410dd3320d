-- The half of the round trip that goes from lines to words: the lines that an accepted program's text is read as (specs/Expected.antt) have no
-- mistake, and their words are the program. Assumes nothing.
use Rattle.model.specs.Types.{Ok}
use Prim.Native.Nat.{ℕ}
use mathlib.Core.List.{List}
use mathlib.Core.Path.{◌≡◌, refl, ◌∙◌}
use native.Mathlib.Omega.{arith}
use borrow.Author.Tests.{eq-eqb, ne_eqb, le-ltb}
use lib.ListN.{length}
use Rattle.assembly.proofs.AssembleLaws.{next_is}
use Rattle.assembly.proofs.MistakeLaws.{not_made, not_made_first}
use Rattle.assembly.specs.Lines.{memory_line, entry_line, one, is_of}
use Rattle.assembly.specs.Mistakes.{mistake_at, mistake_of, text_mistake, of_text, program_length}
use Rattle.assembly.specs.Rules.{lines_mistake, rule_mistake}
use Rattle.assembly.specs.Words.{words}
use Rattle.model.proofs.TestLaws.{pick_true}
use Rattle.model.specs.Check.{check}
use Rattle.model.specs.Test.{pick}
use Rattle.round_trip.specs.Expected.{expected, flat}
use Rattle.round_trip.proofs.AcceptedLaws.{Whole, whole}
use Rattle.round_trip.proofs.LineLaws.{room, size}
use Rattle.round_trip.proofs.MistakeFree.{own_free, among_free}
use Rattle.round_trip.proofs.WordsAre.{length_is, total-fits, is_given, words_are as words-whole}

text_free : {p : List ℕ} → Whole p → of_text (room p) (size p) ≡ mistake_at 0 0
unfolding of_text text_mistake one is_of pick
text_free {p} whole =
    pick_true _ _
    (eq-eqb _ _
    (not_made_first _ _ (ne_eqb _ 0 (is_given whole memory_line (omega arith)))
    ∙ not_made_first _ _ (ne_eqb _ 0 (is_given whole entry_line (omega arith)))
    ∙ not_made _ (le-ltb 65535 (program_length (room p) (size p)) (omega (arith, length_is whole, total-fits whole)))))

module _ (p : List ℕ) (passed : check p ≡ Ok tt) where
  pub mistake_free : mistake_of (flat (expected p)) (length (expected p)) ≡ mistake_at 0 0
  unfolding mistake_of
  mistake_free =
      let all = whole p passed in
      rw (own_free all, among_free all) (next_is _ _ refl ∙ next_is _ _ refl ∙ text_free all)

  pub words_are : words (flat (expected p)) (length (expected p)) ≡ p
  words_are = words-whole (whole p passed)

  pub lines_free : lines_mistake (flat (expected p)) (length (expected p)) ≡ mistake_at 0 0
  unfolding lines_mistake rule_mistake
  lines_free = rw (mistake_free, words_are, passed) (next_is _ _ refl)
