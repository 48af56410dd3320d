-- Worked rows of what is printed. proofs/Rows.antt has the theorem, in which the checker computes every row from the definitions.
use Rattle.model.specs.Types.{Ok}
use Rattle.std.specs.Prelude.{ℕ, List, [], ◌∷◌, ◌++◌, ◌≡◌}
use Rattle.listing.specs.Listing.{label_name, spaces, instruction_text, listing}
use Rattle.model.specs.Check.{check}
use Rattle.model.specs.Starred.{counting}
use Rattle.text.specs.Ascii.{ascii}

-- two tasks, the first of transaction 7, and an event, each with jumps or GO
unfoldable pub branching : List ℕ
branching =
    0xC0B1 ∷ 2 ∷ 1 ∷ 4 ∷ 1 ∷ 31
    ∷ 15 ∷ 4 ∷ 7
    ∷ 23 ∷ 2 ∷ 0
    ∷ 27 ∷ 2 ∷ 0
    ∷ 3602 ∷ 2
    ∷ 3072 ∷ 0
    ∷ 2612 ∷ 1
    ∷ 3840 ∷ 1
    ∷ 1872 ∷ 15
    ∷ 3840 ∷ 0
    ∷ 3328 ∷ 1
    ∷ 4096 ∷ 0
    ∷ []

pub record ListingRows : Type 0 where
  pub counting_listed :
      listing counting
      ≡ ascii "memory 2\nentry task0\n\ntask task0\n        LOAD 0 0\n        SET 1 1\n        ADD 0 1\n        SAVE 0 0\n        GO task0\n\nevent event0\n        SAVE 0 1\n        DONE\n"
  pub branching_accepted : check branching ≡ Ok tt
  pub branching_listed :
      listing branching
      ≡ ascii "memory 4\nentry task1\ntransaction trans7 7\n\ntask task0 trans7\nat0:    JLT 1 2 at2\n        JUMP at0\nat2:    LOADX 3 4 1\n        GO task1\n\ntask task1\n        SHR 5 15\n        GO task0\n\nevent event0\n        JZ 0 at1\nat1:    DONE\n"
  pub one_digit : label_name 9 ++ ascii ":" ++ spaces 9 ≡ ascii "at9:    "
  pub two_digits : label_name 10 ++ ascii ":" ++ spaces 10 ≡ ascii "at10:   "
  pub three_digits : label_name 255 ++ ascii ":" ++ spaces 255 ≡ ascii "at255:  "
  pub all_fields : instruction_text 2935 1023 ≡ ascii "SAVEX 7 7 1023\n"
