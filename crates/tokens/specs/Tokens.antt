-- docs/ASSEMBLY.md, "Lines": from the bytes of a text to its lines, each as six numbers: what is wrong in it, its label, its statement and the words
-- behind that. A number below 256 is a byte; `code` is a character's. Assumes nothing.
use Prim.Native.Char.{code}
use Rattle.std.specs.Prelude.{ℕ, suc, ◌+◌, ◌-◌, ◌*◌, ◌^◌, Bool, true, false, List, [], ◌∷◌, ◌++◌, eqb, leb, ltb, get_or, Option, Some, None}
use Rattle.model.specs.Test.{pick, ◌and◌, ◌or◌}
use Rattle.text.specs.Ascii.{ascii}
use Rattle.tokens.specs.declared.Kind.{Kind}
use Rattle.tokens.specs.declared.SourceLine.{SourceLine}
use Rattle.tokens.specs.declared.Reading.{Reading}
use Rattle.tokens.specs.declared.Wrong.{Wrong}

-- ---- Characters

-- a letter's, digit's or underscore's number in a name, "capital and small letters are the same"; 0 of any other byte
unfoldable pub character : ℕ → ℕ
character byte =
    pick (leb (code "0") byte and leb byte (code "9")) (byte - code "0" + 1)
    (pick (leb (code "A") byte and leb byte (code "Z")) (byte - code "A" + 11)
    (pick (leb (code "a") byte and leb byte (code "z")) (byte - code "a" + 11) (pick (eqb byte (code "_")) 37 0)))

-- "spaces, tabs, carriage returns and commas"
unfoldable pub is_space : ℕ → Bool
is_space byte = eqb byte (code " ") or eqb byte (code "\t") or eqb byte (code "\r") or eqb byte (code ",")

abbrev pub line_feed : ℕ
line_feed = code "\n"

-- ---- Words: 0 is none, a number n is n + 1, and a name is larger than every number

abbrev pub number : ℕ → ℕ
number n = n + 1

abbrev pub name : ℕ → ℕ
name value = value + 65536

-- a name's characters as the digits of a number, behind those of a value
unfoldable pub spelled : ℕ → List ℕ → ℕ
spelled value [] = value
spelled value (byte ∷ bytes) = spelled (38 * value + character byte) bytes

-- the word of a name's bytes
abbrev pub named : List ℕ → ℕ
named bytes = name (spelled 0 bytes)

-- ---- What is wrong in a line, by its number; 0 where nothing is

abbrev pub wrong_number : Option Wrong → ℕ
wrong_number None = 0
wrong_number (Some Wrong.Character) = 1
wrong_number (Some Wrong.NumberLarge) = 2
wrong_number (Some Wrong.NumberForm) = 3
wrong_number (Some Wrong.NameLong) = 4
wrong_number (Some Wrong.WordsMany) = 5
wrong_number (Some Wrong.Colon) = 6

-- ---- A line, byte by byte: what is wrong, label and words so far, and the word that is being read

unfoldable pub start : Reading
start = record { wrong = 0; label = 0; first = 0; second = 0; third = 0; fourth = 0; kind = Kind.Nothing; value = 0; comment = false }

unfoldable pub mistaken : Reading → Wrong → Reading
mistaken now wrong =
    record {
      wrong = wrong_number (Some wrong);
      label = now.label;
      first = now.first;
      second = now.second;
      third = now.third;
      fourth = now.fourth;
      kind = now.kind;
      value = now.value;
      comment = now.comment;
    }

unfoldable pub with_word : Reading → Kind → ℕ → Reading
with_word now kind value =
    record {
      wrong = now.wrong;
      label = now.label;
      first = now.first;
      second = now.second;
      third = now.third;
      fourth = now.fourth;
      kind = kind;
      value = value;
      comment = now.comment;
    }

-- label and words, with no word being read
unfoldable pub with_words : Reading → ℕ → ℕ → ℕ → ℕ → ℕ → Reading
with_words now label first second third fourth =
    record {
      wrong = now.wrong;
      label = label;
      first = first;
      second = second;
      third = third;
      fourth = fourth;
      kind = Kind.Nothing;
      value = 0;
      comment = now.comment;
    }

unfoldable pub in_comment : Reading → Reading
in_comment now =
    record {
      wrong = now.wrong;
      label = now.label;
      first = now.first;
      second = now.second;
      third = now.third;
      fourth = now.fourth;
      kind = now.kind;
      value = now.value;
      comment = true;
    }

-- "a number is at most 65535"
unfoldable pub sized : Reading → Kind → ℕ → Reading
sized now kind value = pick (leb value 65535) (with_word now kind value) (mistaken now Wrong.NumberLarge)

-- a digit goes on with a number, by its base, whose digits' numbers are 1 to the base
unfoldable pub digit : Reading → Kind → ℕ → ℕ → Reading
digit now kind base c = pick (leb c base) (sized now kind (base * now.value + (c - 1))) (mistaken now Wrong.NumberForm)

-- the first character of a word
unfoldable pub begun : Reading → ℕ → Reading
begun now c = pick (eqb c 1) (with_word now Kind.Zero 0) (pick (leb c 10) (with_word now Kind.Decimal (c - 1)) (with_word now Kind.Name c))

-- what follows a first 0; x is 34
unfoldable pub after_zero : Reading → ℕ → Reading
after_zero now c = pick (eqb c 34) (with_word now Kind.HexMark 0) (digit now Kind.Decimal 10 c)

-- "a name has at most 12 characters"
unfoldable pub longer : Reading → ℕ → Reading
longer now c = pick (ltb now.value (38 ^ 11)) (with_word now Kind.Name (38 * now.value + c)) (mistaken now Wrong.NameLong)

unfoldable pub goes_on : Kind → Reading → ℕ → Reading
goes_on Kind.Nothing now c = begun now c
goes_on Kind.Zero now c = after_zero now c
goes_on Kind.Decimal now c = digit now Kind.Decimal 10 c
goes_on Kind.HexMark now c = digit now Kind.Hex 16 c
goes_on Kind.Hex now c = digit now Kind.Hex 16 c
goes_on Kind.Name now c = longer now c

-- a word more: "a line has at most four words behind its label"
unfoldable pub added : Reading → ℕ → Reading
added now word =
    pick (eqb now.first 0) (with_words now now.label word 0 0 0)
    (pick (eqb now.second 0) (with_words now now.label now.first word 0 0)
    (pick (eqb now.third 0) (with_words now now.label now.first now.second word 0)
    (pick (eqb now.fourth 0) (with_words now now.label now.first now.second now.third word) (mistaken now Wrong.WordsMany))))

-- where a word ends
unfoldable pub ended_by : Kind → Reading → Reading
ended_by Kind.Nothing now = now
ended_by Kind.Zero now = added now (number now.value)
ended_by Kind.Decimal now = added now (number now.value)
ended_by Kind.HexMark now = mistaken now Wrong.NumberForm
ended_by Kind.Hex now = added now (number now.value)
ended_by Kind.Name now = added now (name now.value)

unfoldable pub ended : Reading → Reading
ended now = ended_by now.kind now

-- "a colon stands behind the line's first word, a name"
unfoldable pub labelled : Reading → Reading
labelled now =
    pick (ltb 65535 now.first and eqb now.second 0 and eqb now.label 0)
    (with_words now now.first 0 0 0 0)
    (mistaken now Wrong.Colon)

-- a line in which something is wrong stays as it is
unfoldable pub if_right : Reading → Reading → Reading
if_right now next = pick (eqb now.wrong 0) next now

unfoldable pub read_byte : Reading → ℕ → Reading
read_byte now byte =
    pick (is_space byte) (ended now)
    (pick (eqb byte (code ";")) (in_comment (ended now))
    (pick (eqb byte (code ":")) (if_right (ended now) (labelled (ended now)))
    (pick (eqb (character byte) 0) (mistaken now Wrong.Character) (goes_on now.kind now (character byte)))))

-- a byte of the line; nothing is read behind a semicolon or behind what is wrong
unfoldable pub next : Reading → ℕ → Reading
next now byte = if_right now (pick now.comment now (read_byte now byte))

-- ---- Statements: the opcodes' names by their numbers, then the others

unfoldable pub statement_names : List (List ℕ)
statement_names =
    ascii "SET"
    ∷ ascii "MOV"
    ∷ ascii "ADD"
    ∷ ascii "SUB"
    ∷ ascii "AND"
    ∷ ascii "OR"
    ∷ ascii "XOR"
    ∷ ascii "SHR"
    ∷ ascii "LOAD"
    ∷ ascii "SAVE"
    ∷ ascii "LOADX"
    ∷ ascii "SAVEX"
    ∷ ascii "JUMP"
    ∷ ascii "JZ"
    ∷ ascii "JLT"
    ∷ ascii "GO"
    ∷ ascii "DONE"
    ∷ ascii "memory"
    ∷ ascii "entry"
    ∷ ascii "transaction"
    ∷ ascii "task"
    ∷ ascii "event"
    ∷ []

unfoldable pub all_named : List (List ℕ) → List ℕ
all_named [] = []
all_named (bytes ∷ names) = named bytes ∷ all_named names

-- the word of statement n + 1; 0 behind the last
abbrev pub statement_word : ℕ → ℕ
statement_word n = get_or (all_named statement_names) n 0

-- the number of the first of these words that the word is, counted from n on; that behind the last where it is none
unfoldable pub number_of : List ℕ → ℕ → ℕ → ℕ
number_of [] word n = n
number_of (one ∷ others) word n = pick (eqb word one) n (number_of others word (n + 1))

-- the statement that a word begins: 0 where there is none, an opcode and 1, 18 to 22 for the others, 23 for any other word
unfoldable pub statement : ℕ → ℕ
statement word = pick (eqb word 0) 0 (number_of (all_named statement_names) word 1)

-- ---- The lines

-- the six numbers of a line
unfoldable pub numbers : Reading → List ℕ
numbers now = now.wrong ∷ now.label ∷ statement now.first ∷ now.second ∷ now.third ∷ now.fourth ∷ []

-- where the line ends
unfoldable pub last : Reading → Reading
last now = if_right now (pick now.comment now (ended now))

unfoldable pub finished : Reading → List ℕ
finished now = numbers (last now)

-- the lines of the bytes that follow, where a line has begun: "a line ends with a line feed or with the text"
unfoldable pub lines_from : Reading → List ℕ → List ℕ
lines_from now [] = finished now
lines_from now (byte ∷ bytes) = pick (eqb byte line_feed) (finished now ++ lines_from start bytes) (lines_from (next now byte) bytes)

unfoldable pub lines : List ℕ → List ℕ
lines text = lines_from start text

-- how many there are
unfoldable pub line_count : List ℕ → ℕ
line_count [] = 1
line_count (byte ∷ bytes) = pick (eqb byte line_feed) (suc (line_count bytes)) (line_count bytes)

-- lines in a room, as six numbers each
unfoldable pub all_numbers : List SourceLine → List ℕ
all_numbers [] = []
all_numbers (l ∷ ls) = l.wrong ∷ l.label ∷ l.statement ∷ l.first ∷ l.second ∷ l.third ∷ all_numbers ls
