-- Document 02, N1: program.img, and what is promised of it. A number below 256 is a byte. Assumes nothing.
use Rattle.std.specs.Prelude.{ℕ, zero, suc, ◌+◌, ◌*◌, ◌/◌, ◌%◌, ◌≤◌, ◌<◌, List, [], ◌∷◌, ◌++◌, ◌≡◌, eqb, length, take}
use Rattle.model.specs.Check.{check}
use Rattle.model.specs.Program.{word, memory_words}
use Rattle.model.specs.Store.{store_length}
use Rattle.model.specs.Test.{must, ◌then◌}
use Rattle.model.specs.Types.{Checked, Ok, Err}
use Rattle.model.specs.declared.Refusal.{Refusal}
use Rattle.image.specs.declared.Loaded.{Loaded}

-- ---- "program.img (words low byte first, an odd byte count is 1, a missing file is empty; L and Q are 1)"

-- word i
unfoldable pub low_first : List ℕ → ℕ → ℕ
low_first image i = word image (2 * i) + 256 * word image (2 * i + 1)

unfoldable pub first_words : List ℕ → ℕ → List ℕ
first_words image zero = []
first_words image (suc n) = first_words image n ++ (low_first image n ∷ [])

unfoldable pub program_of : List ℕ → List ℕ
program_of image = first_words image (length image / 2)

unfoldable pub image_check : List ℕ → Checked
image_check image = must (eqb (length image % 2) 0) Refusal.ProgramLength then check (program_of image)

-- ---- What each function promises

-- load: the image's words, of those that were lent
pub record Loads (image words : List ℕ) (r : Loaded) : Type 0 where
  pub inside : r.length ≤ 65535
  pub checked : r.checked ≡ image_check image
  pub program : r.checked ≡ Ok tt → take r.length words ≡ program_of image

-- read: the image's first words, all of them where they fit into those that were lent
pub record Reads (image words : List ℕ) (n : ℕ) : Type 0 where
  pub inside : n ≤ length words
  pub first : take n words ≡ first_words image n
  pub all : length image / 2 ≤ length words → n ≡ length image / 2

-- store_words, for a program that the check accepts as many as formatting asks for
pub record StoreWords (p : List ℕ) (n : ℕ) : Type 0 where
  pub most : n ≤ 1047
  pub enough : check p ≡ Ok tt → n ≡ store_length (memory_words p) 1 1

-- More words than word 5 can say are 1: what lies past 131,072 bytes decides nothing.
abbrev pub LongIsRefused : Type 0
LongIsRefused =
    (image : List ℕ) → ((i : ℕ) → word image i < 256) → 131072 ≤ length image → image_check image ≡ Err Refusal.ProgramLength
