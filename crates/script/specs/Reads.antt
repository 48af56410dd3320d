-- What the library promises of a line that is being read: what it holds, and lent words, is the line that is defined. Assumes nothing.
use Rattle.std.specs.Prelude.{ℕ, ◌-◌, ◌≤◌, ◌<◌, Bool, true, List, [], ◌≡◌, Option, Some, None, length, get_or, take}
use Rattle.model.specs.Program.{word}
use Rattle.model.specs.Test.{pick, ◌or◌}
use Rattle.script.specs.Script.{Line, line_of, names, has_index, has_totals, most_numbers, largest, many}
use Rattle.script.specs.Script.{program_line, sizes_line, totals_line, check_call, format_call, boot_call, step_call, cut_call, post_call, burst_call, run_call, lines_check_call, raise_call, set_program_call, set_store_call, program_length_call, store_length_call, set_device_call, set_totals_call, keep_call, restore_call}
use Rattle.script.specs.Script.{name_unknown, number_many, number_form, number_large, number_missing, heading_late}
use Rattle.script.specs.declared.Mistake.{Mistake}
use Rattle.script.specs.declared.names.Name.{Name}
use Rattle.script.specs.declared.Reading.{Reading}

-- a name's number and its bytes, by the page's table; 0 before the name has ended
unfoldable pub number_of : Name → ℕ
number_of Name.Program = program_line
number_of Name.Sizes = sizes_line
number_of Name.Totals = totals_line
number_of Name.Check = check_call
number_of Name.Format = format_call
number_of Name.Boot = boot_call
number_of Name.Step = step_call
number_of Name.Cut = cut_call
number_of Name.Post = post_call
number_of Name.Burst = burst_call
number_of Name.Run = run_call
number_of Name.LinesCheck = lines_check_call
number_of Name.Raise = raise_call
number_of Name.SetProgram = set_program_call
number_of Name.SetStore = set_store_call
number_of Name.ProgramLength = program_length_call
number_of Name.StoreLength = store_length_call
number_of Name.SetDevice = set_device_call
number_of Name.SetTotals = set_totals_call
number_of Name.Keep = keep_call
number_of Name.Restore = restore_call

unfoldable pub text_of : Name → List ℕ
text_of name = get_or names (number_of name - 1) []

abbrev pub kind_of : Option Name → ℕ
kind_of None = 0
kind_of (Some name) = number_of name

-- the number of what is wrong
abbrev pub number_of_mistake : Mistake → ℕ
number_of_mistake Mistake.NameUnknown = name_unknown
number_of_mistake Mistake.NumberMany = number_many
number_of_mistake Mistake.NumberForm = number_form
number_of_mistake Mistake.NumberLarge = number_large
number_of_mistake Mistake.NumberMissing = number_missing
number_of_mistake Mistake.HeadingLate = heading_late

-- numbers that may be larger than a word are held in the reading, three at most; all others in lent words
unfoldable pub is_wide : ℕ → Bool
is_wide kind = has_index kind or has_totals kind

abbrev pub numbers_of : Reading → List ℕ → List ℕ
numbers_of now words = take now.count (pick (is_wide now.kind) now.wide words)

-- the line of a reading and of the lent words
abbrev pub line_in : Reading → List ℕ → Line
line_in now words =
    line_of now.wrong now.comment (take now.held now.name) now.kind (numbers_of now words) now.begun now.value

-- the numbers held in a reading aren't larger than they may be
abbrev pub Small : ℕ → List ℕ → ℕ → Type 0
Small kind wide count = (i : ℕ) → i < count → is_wide kind ≡ true → word wide i ≤ largest kind i

-- what holds of a reading that the library left, with so many lent words; by the reading's parts, so that it stands where others change
pub record Sizes (words : ℕ) (name : List ℕ) (held kind : ℕ) (wide : List ℕ) (count : ℕ) (begun : Bool) (value : ℕ) : Type 0 where
  pub room : words ≡ many
  pub name_length : length name ≡ 16
  pub held_most : held ≤ 16
  pub kind_most : kind ≤ 21
  pub wide_long : length wide ≡ 3
  pub wide_in : Small kind wide count
  pub count_most : count ≤ most_numbers kind
  pub begun_more : begun ≡ true → count < most_numbers kind
  pub value_most : value ≤ largest kind count

abbrev pub Sized : Reading → ℕ → Type 0
Sized now words = Sizes words now.name now.held now.kind now.wide now.count now.begun now.value

-- a reading became another, whose line is this one
pub record Holds (line : Line) (after : Reading) (words : List ℕ) : Type 0 where
  pub read : line_in after words ≡ line
  pub sized : Sized after (length words)

-- a line became another, of the same lent words, whatever they are
abbrev pub Becomes : (Line → Line) → Reading → Reading → Type 0
Becomes change before after = (words : List ℕ) → Sized before (length words) → Holds (change (line_in before words)) after words
