-- docs/PLAY.md, "The list": a line of a list, byte by byte, from its bytes to a name's number and the numbers behind it, or what is wrong. A
-- number below 256 is a byte; `code` is a character's. Assumes nothing.
use Prim.Native.Char.{code}
use Rattle.std.specs.Prelude.{ℕ, ◌+◌, ◌*◌, Bool, true, false, not, List, [], ◌∷◌, ◌++◌, eqb, leb, ltb, get_or, length}
use Rattle.model.specs.Test.{pick, ◌and◌, ◌or◌}
use Rattle.text.specs.Ascii.{ascii}
use Rattle.text.specs.Text.{digit}

-- ---- Names, with their numbers

abbrev pub program_line : ℕ
program_line = 1

abbrev pub sizes_line : ℕ
sizes_line = 2

abbrev pub totals_line : ℕ
totals_line = 3

abbrev pub check_call : ℕ
check_call = 4

abbrev pub format_call : ℕ
format_call = 5

abbrev pub boot_call : ℕ
boot_call = 6

abbrev pub step_call : ℕ
step_call = 7

abbrev pub cut_call : ℕ
cut_call = 8

abbrev pub post_call : ℕ
post_call = 9

abbrev pub burst_call : ℕ
burst_call = 10

abbrev pub run_call : ℕ
run_call = 11

abbrev pub lines_check_call : ℕ
lines_check_call = 12

abbrev pub raise_call : ℕ
raise_call = 13

abbrev pub set_program_call : ℕ
set_program_call = 14

abbrev pub set_store_call : ℕ
set_store_call = 15

abbrev pub program_length_call : ℕ
program_length_call = 16

abbrev pub store_length_call : ℕ
store_length_call = 17

abbrev pub set_device_call : ℕ
set_device_call = 18

abbrev pub set_totals_call : ℕ
set_totals_call = 19

abbrev pub keep_call : ℕ
keep_call = 20

abbrev pub restore_call : ℕ
restore_call = 21

-- the table's first column: name number 1, 2, ..
unfoldable pub names : List (List ℕ)
names =
    ascii "program"
    ∷ ascii "sizes"
    ∷ ascii "totals"
    ∷ ascii "check"
    ∷ ascii "format"
    ∷ ascii "boot"
    ∷ ascii "step"
    ∷ ascii "cut"
    ∷ ascii "post"
    ∷ ascii "burst"
    ∷ ascii "run"
    ∷ ascii "lines-check"
    ∷ ascii "raise"
    ∷ ascii "set-program"
    ∷ ascii "set-store"
    ∷ ascii "program-length"
    ∷ ascii "store-length"
    ∷ ascii "set-device"
    ∷ ascii "set-totals"
    ∷ ascii "keep"
    ∷ ascii "restore"
    ∷ []

unfoldable pub same : List ℕ → List ℕ → Bool
same [] [] = true
same [] (byte ∷ bytes) = false
same (byte ∷ bytes) [] = false
same (byte ∷ bytes) (other ∷ others) = eqb byte other and same bytes others

-- the number of the first of these names that the bytes are, counted from n on; 0 where they are none
unfoldable pub number_from : List (List ℕ) → ℕ → List ℕ → ℕ
number_from [] n bytes = 0
number_from (one ∷ others) n bytes = pick (same bytes one) n (number_from others (n + 1) bytes)

unfoldable pub name_number : List ℕ → ℕ
name_number bytes = number_from names 1 bytes

-- ---- "numbers follow, as many as the name has"

-- "A line has at most 131072 numbers."
abbrev pub many : ℕ
many = 131072

-- how many at least, and at most, by the name's number
unfoldable pub least : List ℕ
least = 0 ∷ 0 ∷ 2 ∷ 3 ∷ 0 ∷ 2 ∷ 0 ∷ 0 ∷ 0 ∷ 2 ∷ 9 ∷ 1 ∷ 0 ∷ 2 ∷ 2 ∷ 2 ∷ 1 ∷ 1 ∷ 26 ∷ 3 ∷ []

unfoldable pub least_numbers : ℕ → ℕ
least_numbers kind = get_or least kind 0

unfoldable pub most_numbers : ℕ → ℕ
most_numbers kind = pick (eqb kind program_line or eqb kind lines_check_call or eqb kind raise_call) many (least_numbers kind)

-- "in a `program` line hex digits"
unfoldable pub base : ℕ → ℕ
base kind = pick (eqb kind program_line) 16 10

-- names whose first number is an index or a length, and those whose numbers are totals or a budget
unfoldable pub has_index : ℕ → Bool
has_index kind = leb set_program_call kind and leb kind store_length_call

unfoldable pub has_totals : ℕ → Bool
has_totals kind = eqb kind totals_line or eqb kind run_call or eqb kind set_totals_call

-- "A word is at most 65535, INDEX and LENGTH at most 131072, BUDGET and the totals at most 4294967295": number i of a line
unfoldable pub largest : ℕ → ℕ → ℕ
largest kind i = pick (has_totals kind) 4294967295 (pick (has_index kind and eqb i 0) many 65535)

-- ---- What is wrong, in the order of the page's table

abbrev pub name_unknown : ℕ
name_unknown = 1

abbrev pub number_many : ℕ
number_many = 2

abbrev pub number_form : ℕ
number_form = 3

abbrev pub number_large : ℕ
number_large = 4

abbrev pub number_missing : ℕ
number_missing = 5

abbrev pub heading_late : ℕ
heading_late = 6

-- ---- A line as far as it is read

-- the name's bytes, and its number once it has ended; the numbers that have ended; whether a number is being read, and its value so far
pub record Line : Type 0 where
  pub wrong : ℕ
  pub comment : Bool
  pub name : List ℕ
  pub kind : ℕ
  pub numbers : List ℕ
  pub begun : Bool
  pub value : ℕ

abbrev pub line_of : ℕ → Bool → List ℕ → ℕ → List ℕ → Bool → ℕ → Line
line_of wrong comment name kind numbers begun value =
    record { wrong = wrong; comment = comment; name = name; kind = kind; numbers = numbers; begun = begun; value = value }

abbrev pub blank : Line
blank = line_of 0 false [] 0 [] false 0

abbrev pub mistaken : Line → ℕ → Line
mistaken l wrong = line_of wrong l.comment l.name l.kind l.numbers l.begun l.value

-- ---- "Words are parted by spaces, tabs and carriage returns"

unfoldable pub is_space : ℕ → Bool
is_space byte = eqb byte (code " ") or eqb byte (code "\t") or eqb byte (code "\r")

abbrev pub line_feed : ℕ
line_feed = code "\n"

-- where the name ends
unfoldable pub name_ended : Line → Line
name_ended l =
    pick (eqb (name_number l.name) 0) (mistaken l name_unknown)
    (line_of l.wrong l.comment l.name (name_number l.name) [] false 0)

-- where a number ends
abbrev pub number_ended : Line → Line
number_ended l = line_of l.wrong l.comment l.name l.kind (l.numbers ++ (l.value ∷ [])) false 0

-- where a word ends, if there is one
unfoldable pub ended : Line → Line
ended l = pick (eqb l.kind 0) (pick (eqb (length l.name) 0) l (name_ended l)) (pick l.begun (number_ended l) l)

-- "one whose first word begins with `#`": a byte behind so many
unfoldable pub begins_comment : ℕ → ℕ → Bool
begins_comment held byte = eqb held 0 and eqb byte (code "#")

-- Of a longer name 16 bytes are kept: no call's name has so many.
unfoldable pub name_byte : Line → ℕ → Line
name_byte l byte =
    pick (begins_comment (length l.name) byte) (line_of l.wrong true l.name l.kind l.numbers l.begun l.value)
    (pick (ltb (length l.name) 16) (line_of l.wrong l.comment (l.name ++ (byte ∷ [])) l.kind l.numbers l.begun l.value) l)

-- the number that is being read becomes larger
unfoldable pub sized : Line → ℕ → Line
sized l value =
    pick (leb value (largest l.kind (length l.numbers)))
    (line_of l.wrong l.comment l.name l.kind l.numbers true value)
    (mistaken l number_large)

unfoldable pub digit_byte : Line → ℕ → Line
digit_byte l byte = pick (ltb (digit byte) (base l.kind)) (sized l (base l.kind * l.value + digit byte)) (mistaken l number_form)

unfoldable pub number_byte : Line → ℕ → Line
number_byte l byte =
    pick (not l.begun and leb (most_numbers l.kind) (length l.numbers)) (mistaken l number_many) (digit_byte l byte)

unfoldable pub read_byte : Line → ℕ → Line
read_byte l byte = pick (is_space byte) (ended l) (pick (eqb l.kind 0) (name_byte l byte) (number_byte l byte))

-- nothing is read in a comment or behind what is wrong
unfoldable pub stopped : Line → Bool
stopped l = l.comment or not (eqb l.wrong 0)

-- a byte of the line
unfoldable pub next : Line → ℕ → Line
next l byte = pick (stopped l) l (read_byte l byte)

-- where the line ends
unfoldable pub complete : Line → Line
complete l = pick (ltb (length l.numbers) (least_numbers l.kind) and eqb l.wrong 0) (mistaken l number_missing) l

unfoldable pub last : Line → Line
last l = pick (stopped l) l (complete (ended l))
