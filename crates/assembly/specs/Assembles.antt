-- docs/ASSEMBLY.md: what `assemble` answers for a text, and what the library promises of it. Assumes nothing.
use Rattle.model.specs.Types.{Ok, Result}
use Rattle.std.specs.Prelude.{ℕ, ◌≤◌, List, ◌≡◌, leb, length, take}
use Rattle.model.specs.Check.{check}
use Rattle.model.specs.Test.{pick, ◌and◌}
use Rattle.tokens.specs.Tokens.{lines, line_count}
use Rattle.assembly.specs.Mistakes.{MistakeNumbers, mistake_at, mistake_numbers}
use Rattle.assembly.specs.Rules.{lines_mistake}
use Rattle.assembly.specs.Words.{words}
use Rattle.assembly.specs.declared.Mistake.{Mistake}

abbrev pub text_long : ℕ
text_long = 36

-- "A text has at most 1,048,576 bytes and 65,536 lines"
unfoldable pub assemble_mistake : List ℕ → MistakeNumbers
assemble_mistake text =
    pick (leb (length text) 1048576 and leb (line_count text) 65536) (lines_mistake (lines text) (line_count text)) (mistake_at 1 text_long)

-- the program words
unfoldable pub assembled : List ℕ → List ℕ
assembled text = words (lines text) (line_count text)

-- the lines of a text became words, so many of those that are left, or have a first mistake
pub record AssemblesLines (room : List ℕ) (n : ℕ) (left : List ℕ) (r : Result ℕ Mistake) : Type 0 where
  pub mistake : mistake_numbers r ≡ lines_mistake room n
  pub inside : (count : ℕ) → r ≡ Ok count → count ≤ length left
  pub made : (count : ℕ) → r ≡ Ok count → take count left ≡ words room n
  pub accepted : (count : ℕ) → r ≡ Ok count → check (words room n) ≡ Ok tt

-- "Every text is answered: by its words, which the check accepts, or by a line and a mistake"
pub record Assembles (text left : List ℕ) (r : Result ℕ Mistake) : Type 0 where
  pub mistake : mistake_numbers r ≡ assemble_mistake text
  pub inside : (count : ℕ) → r ≡ Ok count → count ≤ length left
  pub made : (count : ℕ) → r ≡ Ok count → take count left ≡ assembled text
  pub accepted : (count : ℕ) → r ≡ Ok count → check (assembled text) ≡ Ok tt
