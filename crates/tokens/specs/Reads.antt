-- What the library promises of a text's lines. Assumes nothing.
use Rattle.std.specs.Prelude.{ℕ, ◌+◌, ◌^◌, ◌<◌, ◌≤◌, List, ◌∷◌, ◌++◌, ◌≡◌, leb, length, take, get_or, Option, Some, None}
use Rattle.model.specs.Test.{pick}
use Rattle.tokens.specs.Tokens.{lines_from, lines, line_count, all_numbers, wrong_number}
use Rattle.tokens.specs.declared.SourceLine.{SourceLine}
use Rattle.tokens.specs.declared.Progress.{Progress}
use Rattle.tokens.specs.declared.Reading.{Reading}
use Rattle.tokens.specs.declared.Wrong.{Wrong}

-- the value of a word that is being read is that of a name of 12 characters at most
abbrev pub Small : Reading → Type 0
Small now = now.value < 38 ^ 12

-- what is wrong in a line, by its number, is nothing or one of `Wrong`, of which Colon is the last
abbrev pub Known : ℕ → Type 0
Known wrong = wrong ≤ wrong_number (Some Wrong.Colon)

-- so it is in each of these lines
abbrev pub AllKnown : List SourceLine → Type 0
AllKnown ls = (i : ℕ) (d : SourceLine) → i < length ls → Known (get_or ls i d).wrong

-- and in those of a room so far, and in what is read of the next
abbrev pub KnownSoFar : List SourceLine → Progress → Type 0
KnownSoFar room now = AllKnown (take now.done room) × Known now.reading.wrong

-- a byte of the text: what the room has and what is to come, whatever follows, and how many lines that is
pub record Takes (byte : ℕ) (room : List SourceLine) (before : Progress) (left : List SourceLine) (after : Progress) : Type 0 where
  pub lines :
      (rest : List ℕ)
      → all_numbers (take after.done left) ++ lines_from after.reading rest ≡ all_numbers (take before.done room) ++ lines_from before.reading (byte ∷ rest)
  pub count : (rest : List ℕ) → after.done + line_count rest ≡ before.done + line_count (byte ∷ rest)
  pub small_value : Small after.reading

-- a text was read into a room for so many lines: how many lines it has, none where there isn't room for them
pub record Reads (text : List ℕ) (room : List SourceLine) (r : Option ℕ) : Type 0 where
  pub count : r ≡ pick (leb (line_count text) (length room)) (Some (line_count text)) None
  pub read : (n : ℕ) → r ≡ Some n → all_numbers (take n room) ≡ lines text
