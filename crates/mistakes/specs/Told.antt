-- docs/ASSEMBLY.md, "A mistake is told as": the words of each mistake, by its number. Assumes nothing.
use Rattle.std.specs.Prelude.{ℕ, List, [], ◌∷◌, ◌++◌, get_or}
use Rattle.text.specs.Ascii.{ascii}
use Rattle.text.specs.Text.{decimal}
use Rattle.assembly.specs.Mistakes.{MistakeNumbers, kind_number}
use Rattle.assembly.specs.declared.MistakeKind.{MistakeKind}

-- from number 1 on; 0 has none
unfoldable pub mistake_texts : List (List ℕ)
mistake_texts =
    []
    ∷ ascii "this character can't stand here"
    ∷ ascii "a number is at most 65535"
    ∷ ascii "a number is decimal digits, or 0x and hex digits"
    ∷ ascii "a name has at most 12 characters"
    ∷ ascii "a line has at most four words behind its label"
    ∷ ascii "a colon stands behind the line's first word, a name"
    ∷ ascii "no statement begins so"
    ∷ ascii "this statement has another number of words"
    ∷ ascii "a name is due here"
    ∷ ascii "a number is due here"
    ∷ ascii "a label stands in a body, alone or before an instruction"
    ∷ ascii "this label is taken"
    ∷ ascii "an instruction stands in a body"
    ∷ ascii "tasks stand before events"
    ∷ ascii "this name is taken"
    ∷ ascii "this is given above"
    ∷ ascii "no task has this name"
    ∷ ascii "no instruction of this body has this label"
    ∷ ascii "no transaction has this name"
    ∷ ascii "memory isn't given"
    ∷ ascii "entry isn't given"
    ∷ ascii "a program has at most 65535 words"
    ∷ ascii "a program has 1 to 32 tasks"
    ∷ ascii "a program has at most 16 events"
    ∷ ascii "memory has 1 to 1024 words"
    ∷ ascii "no task has this number"
    ∷ ascii "a body has 1 to 256 instructions"
    ∷ ascii "a transaction's number is at most 255"
    ∷ ascii "a register is 0 to 7"
    ∷ ascii "SHR shifts by 0 to 15"
    ∷ ascii "the address isn't below the number of memory words"
    ∷ ascii "the target isn't an instruction of this body"
    ∷ ascii "GO stands only in tasks"
    ∷ ascii "DONE stands only in events"
    ∷ ascii "a body ends with JUMP, GO or DONE"
    ∷ ascii "a text has at most 1048576 bytes and 65536 lines"
    ∷ []

-- the number of a mistake that a line's reading doesn't find; 0 of those that it does
abbrev pub other_number : MistakeKind → ℕ
other_number (MistakeKind.Reading _) = 0
other_number (MistakeKind.Unknown _) = 0
other_number kind = kind_number kind

unfoldable pub told : MistakeNumbers → List ℕ
told m = ascii "line " ++ decimal m.line ++ ascii ": " ++ get_or mistake_texts m.number [] ++ ascii "\n"
