-- Laws of program.img's words: how many there are and which, and an image whose count of words isn't its word 5. Assumes nothing.
use Prim.Native.Nat.{ℕ, zero, suc, ◌+◌, ◌*◌, ◌/◌, ◌%◌, ◌<◌, ◌≤◌}
use mathlib.Core.List.{List, [], ◌∷◌}
use mathlib.Core.Logic.{◌≢◌}
use mathlib.Core.Path.{◌≡◌, refl, sym, ◌∙◌}
use native.Mathlib.Omega.{arith}
use borrow.Author.Tests.{eq-eqb, ne_eqb, lt-leb, le-leb}
use native.Mathlib.Numerals.{add-one}
use lib.ListN.{length, length-append, get_or-append, set, take}
use lib.Seq.{get_or_at, take-suc-set}
use Rattle.model.proofs.TestLaws.{same_or, must_stop, must_go, then_rest}
use Rattle.model.specs.Check.{contents_rule, check}
use Rattle.model.specs.Program.{word, total}
use Rattle.model.specs.Test.{must, in_turn}
use Rattle.model.specs.Types.{Ok, Err}
use Rattle.model.specs.declared.Refusal.{Refusal}
use Rattle.image.specs.Image.{low_first, first_words, program_of, image_check, LongIsRefused}

pub words-length : (image : List ℕ) (n : ℕ) → length (first_words image n) ≡ n
unfolding first_words
words-length image zero = refl
words-length image (suc n) = simp length-append (omega (arith, words-length image n))

word_is : (image : List ℕ) (n i : ℕ) → i < n → word (first_words image n) i ≡ low_first image i
unfolding first_words
word_is image zero i l = absurd (omega arith)
word_is image (suc n) i l =
    same_or i n
    (λ same. rw same (get_or_at (first_words image n) (low_first image n) [] 0 n (words-length image n)))
    (λ differ.
    let inside : i < length (first_words image n) = omega (arith, words-length image n) in
    get_or-append (first_words image n) (low_first image n ∷ []) 0 i inside ∙ word_is image n i (omega arith))

-- one word more is filled
pub filled : (image words : List ℕ) (n x : ℕ) → n < length words → take n words ≡ first_words image n
    → x ≡ word image (2 * n) + 256 * word image (2 * n + 1) → take (n + 1) (set words n x) ≡ first_words image (n + 1)
unfolding first_words low_first
filled image words n x l e v = rw add-one (take-suc-set words n x l ∙ rw (e, v))

-- a program of fewer than 6 words, or whose count isn't its word 5, is refused as 1
pub too_short : (p : List ℕ) → length p < 6 → Err Refusal.ProgramLength ≡ check p
unfolding check contents_rule must in_turn
too_short p l = rw (lt-leb 6 (length p) l)

pub other_length : (p : List ℕ) → 6 ≤ length p → length p ≢ total p → Err Refusal.ProgramLength ≡ check p
unfolding check contents_rule must in_turn
other_length p six l = rw (le-leb 6 (length p) six, ne_eqb (length p) (total p) l)

module _ (image : List ℕ) where
  pub odd_is_1 : length image % 2 ≢ 0 → Err Refusal.ProgramLength ≡ image_check image
  unfolding image_check
  odd_is_1 h = must_stop Refusal.ProgramLength (check (program_of image)) (ne_eqb (length image % 2) 0 h)

  -- of an even count
  pub even_is_checked : length image % 2 ≡ 0 → check (program_of image) ≡ image_check image
  unfolding image_check
  even_is_checked h = must_go Refusal.ProgramLength (check (program_of image)) (eq-eqb (length image % 2) 0 h)

  pub few_is_1 : length image % 2 ≡ 0 → length image < 12 → Err Refusal.ProgramLength ≡ image_check image
  unfolding program_of
  few_is_1 h l = too_short (program_of image) (omega (arith, words-length image (length image / 2))) ∙ even_is_checked h

  pub unequal_is_1 : length image % 2 ≡ 0 → 12 ≤ length image → length image / 2 ≢ low_first image 5 → Err Refusal.ProgramLength ≡ image_check image
  unfolding program_of
  unequal_is_1 h l u =
      let count = words-length image (length image / 2) in
      let six : 6 ≤ length (program_of image) = omega arith in
      let five : total (program_of image) ≡ low_first image 5 = word_is image (length image / 2) 5 (omega arith) in
      other_length (program_of image) six (λ e. u (sym count ∙ e ∙ five)) ∙ even_is_checked h

  pub image_accepted : image_check image ≡ Ok tt → check (program_of image) ≡ Ok tt
  unfolding image_check
  image_accepted e = then_rest _ _ e

pub long_is_refused : LongIsRefused
unfolding low_first
long_is_refused image bytes long =
    same_or (length image % 2) 0
    (λ even. sym (unequal_is_1 image even (omega arith) (λ same. absurd (omega (arith, bytes 10, bytes 11)))))
    (λ odd. sym (odd_is_1 image odd))
