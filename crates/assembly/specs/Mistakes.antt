-- docs/ASSEMBLY.md, "Mistakes": the first mistake of a line, of the lines and of the text; 0 where there is none. Assumes nothing.
use Rattle.std.specs.Prelude.{ℕ, zero, suc, ◌+◌, ◌-◌, ◌*◌, Bool, true, false, not, List, eqb, leb, ltb, Some, Result, Ok, Err}
use Rattle.model.specs.Test.{pick, ◌and◌, ◌or◌}
use Rattle.tokens.specs.Uses.{uses_a, uses_b, uses_k, is_jump, go_opcode}
use Rattle.assembly.specs.Lines.{Line, line_at, lines_at, memory_line, entry_line, transaction_line, task_line, event_line, other_line, body_line, instruction_line, is_instruction, is_name_word, none, count, numbered, transaction_value, label_number, has_label, body_start}
use Rattle.assembly.specs.declared.Mistake.{Mistake}
use Rattle.assembly.specs.declared.MistakeKind.{MistakeKind}
use Rattle.tokens.specs.Tokens.{wrong_number}

-- ---- Their numbers; 1 to 6 are crate tokens', and any from 7 on is an unknown one's, too

abbrev pub kind_number : MistakeKind → ℕ
kind_number (MistakeKind.Reading wrong) = wrong_number (Some wrong)
kind_number (MistakeKind.Unknown past) = 7 + past
kind_number MistakeKind.NoStatement = 7
kind_number MistakeKind.WordCount = 8
kind_number MistakeKind.NameDue = 9
kind_number MistakeKind.NumberDue = 10
kind_number MistakeKind.LabelPlace = 11
kind_number MistakeKind.LabelTaken = 12
kind_number MistakeKind.InstructionPlace = 13
kind_number MistakeKind.TaskPlace = 14
kind_number MistakeKind.NameTaken = 15
kind_number MistakeKind.GivenAbove = 16
kind_number MistakeKind.NoTask = 17
kind_number MistakeKind.NoLabel = 18
kind_number MistakeKind.NoTransaction = 19
kind_number MistakeKind.NoMemory = 20
kind_number MistakeKind.NoEntry = 21
kind_number MistakeKind.ProgramLong = 22
kind_number MistakeKind.TaskCount = 23
kind_number MistakeKind.EventCount = 24
kind_number MistakeKind.MemorySize = 25
kind_number MistakeKind.NoTaskNumber = 26
kind_number MistakeKind.BodySize = 27
kind_number MistakeKind.TransactionLarge = 28
kind_number MistakeKind.RegisterLarge = 29
kind_number MistakeKind.ShiftLarge = 30
kind_number MistakeKind.AddressLarge = 31
kind_number MistakeKind.TargetLarge = 32
kind_number MistakeKind.GoPlace = 33
kind_number MistakeKind.DonePlace = 34
kind_number MistakeKind.BodyEnd = 35
kind_number MistakeKind.TextLong = 36

-- of what a function finds: 0 where nothing is wrong
abbrev pub found_number : Result Unit MistakeKind → ℕ
found_number (Ok _) = 0
found_number (Err kind) = kind_number kind

-- any kind but an unknown one
abbrev pub is_known : MistakeKind → Bool
is_known (MistakeKind.Unknown _) = false
is_known _ = true

-- of what a function finds
abbrev pub finds_known : Result Unit MistakeKind → Bool
finds_known (Ok _) = true
finds_known (Err kind) = is_known kind

abbrev pub no_statement : ℕ
no_statement = 7

abbrev pub word_count : ℕ
word_count = 8

abbrev pub name_due : ℕ
name_due = 9

abbrev pub number_due : ℕ
number_due = 10

abbrev pub label_place : ℕ
label_place = 11

abbrev pub label_taken : ℕ
label_taken = 12

abbrev pub instruction_place : ℕ
instruction_place = 13

abbrev pub task_place : ℕ
task_place = 14

abbrev pub name_taken : ℕ
name_taken = 15

abbrev pub given_above : ℕ
given_above = 16

abbrev pub no_task : ℕ
no_task = 17

abbrev pub no_label : ℕ
no_label = 18

abbrev pub no_transaction : ℕ
no_transaction = 19

abbrev pub no_memory : ℕ
no_memory = 20

abbrev pub no_entry : ℕ
no_entry = 21

abbrev pub program_long : ℕ
program_long = 22

-- the first that is one
unfoldable pub or_else : ℕ → ℕ → ℕ
or_else m n = pick (eqb m 0) n m

unfoldable pub mistake_if : Bool → ℕ → ℕ
mistake_if b m = pick b m 0

-- ---- "A statement, its words from left to right"

abbrev pub opcode_of : Line → ℕ
opcode_of l = l.statement - 1

unfoldable pub bit : Bool → ℕ
bit b = pick b 1 0

-- how many of a, b and k an opcode uses
unfoldable pub operands : ℕ → ℕ
operands op = bit (uses_a op) + bit (uses_b op) + bit (uses_k op)

unfoldable pub words_least : ℕ → ℕ
words_least s = pick (eqb s 0) 0 (pick (leb s 17) (operands (s - 1)) (pick (eqb s transaction_line) 2 1))

unfoldable pub words_most : ℕ → ℕ
words_most s = pick (eqb s task_line) 2 (words_least s)

-- the words behind the statement
unfoldable pub words_behind : Line → ℕ
words_behind l = pick (eqb l.first 0) 0 (pick (eqb l.second 0) 1 (pick (eqb l.third 0) 2 3))

-- k is a number and nothing else
unfoldable pub number_only : ℕ → Bool
number_only op = not (is_jump op) and not (eqb op go_opcode)

unfoldable pub name_first : ℕ → Bool
name_first s = leb transaction_line s and leb s event_line

unfoldable pub number_first : Line → Bool
number_first l = eqb l.statement memory_line or (is_instruction l and uses_a (opcode_of l))

unfoldable pub number_second : Line → Bool
number_second l =
    eqb l.statement transaction_line
    or (is_instruction l and (uses_b (opcode_of l) or (uses_a (opcode_of l) and number_only (opcode_of l))))

unfoldable pub number_third : Line → Bool
number_third l = is_instruction l and uses_b (opcode_of l) and number_only (opcode_of l)

unfoldable pub kind_mistake : Line → ℕ
kind_mistake l =
    or_else (mistake_if (name_first l.statement and not (is_name_word l.first)) name_due)
    (or_else (mistake_if (number_first l and is_name_word l.first) number_due)
    (or_else (mistake_if (number_second l and is_name_word l.second) number_due) (mistake_if (number_third l and is_name_word l.third) number_due)))

unfoldable pub count_mistake : Line → ℕ
count_mistake l = mistake_if (ltb (words_behind l) (words_least l.statement) or ltb (words_most l.statement) (words_behind l)) word_count

unfoldable pub statement_mistake : Line → ℕ
statement_mistake l = or_else (mistake_if (eqb l.statement other_line) no_statement) (or_else (count_mistake l) (kind_mistake l))

-- ---- "A line among the others": line i, in the body that begins at start, of n lines

-- of line l behind the lines of its body so far
abbrev pub label_mistake_of : ℕ → Line → List Line → ℕ
label_mistake_of start l body =
    pick (eqb l.label 0) 0
    (or_else (mistake_if (eqb start 0 or (not (eqb l.statement 0) and not (is_instruction l))) label_place)
    (mistake_if (has_label l.label body) label_taken))

unfoldable pub label_mistake : List ℕ → ℕ → ℕ → ℕ
label_mistake room start i = label_mistake_of start (line_at room i) (lines_at room start (i - start))

-- of line l behind all lines above
abbrev pub place_mistake_of : ℕ → Line → List Line → ℕ
place_mistake_of start l above =
    or_else (mistake_if (is_instruction l and eqb start 0) instruction_place)
    (or_else (mistake_if (eqb l.statement task_line and ltb 0 (count event_line above)) task_place)
    (or_else (mistake_if (name_first l.statement and ltb (numbered l.statement l.first above 0) none) name_taken)
    (mistake_if ((eqb l.statement memory_line or eqb l.statement entry_line) and ltb 0 (count l.statement above)) given_above)))

unfoldable pub place_mistake : List ℕ → ℕ → ℕ → ℕ
place_mistake room start i = place_mistake_of start (line_at room i) (lines_at room 0 i)

-- GO
abbrev pub go_line : ℕ
go_line = go_opcode + 1

-- the word that is k
unfoldable pub operand_of : Line → ℕ
operand_of l = pick (uses_b (opcode_of l)) l.third (pick (uses_a (opcode_of l)) l.second l.first)

-- the word that names a task, a label of the body or a transaction; 0 where there is none
unfoldable pub task_word : Line → ℕ
task_word l = pick (eqb l.statement entry_line or eqb l.statement go_line) l.first 0

unfoldable pub label_word : Line → ℕ
label_word l = pick (is_instruction l and is_jump (opcode_of l)) (operand_of l) 0

unfoldable pub transaction_word : Line → ℕ
transaction_word l = pick (eqb l.statement task_line) l.second 0

unfoldable pub missing_task : List ℕ → ℕ → ℕ → Bool
missing_task room n name = is_name_word name and eqb (numbered task_line name (lines_at room 0 n) 0) none

unfoldable pub missing_label : List ℕ → ℕ → ℕ → ℕ → Bool
missing_label room n start name = is_name_word name and eqb (label_number name (lines_at room start (n - start)) 0) none

unfoldable pub missing_transaction : List ℕ → ℕ → ℕ → Bool
missing_transaction room n name = is_name_word name and eqb (transaction_value name (lines_at room 0 n)) none

-- of a line l
abbrev pub name_mistake_of : List ℕ → ℕ → ℕ → Line → ℕ
name_mistake_of room n start l =
    or_else (mistake_if (missing_task room n (task_word l)) no_task)
    (or_else (mistake_if (missing_label room n start (label_word l)) no_label) (mistake_if (missing_transaction room n (transaction_word l)) no_transaction))

unfoldable pub name_mistake : List ℕ → ℕ → ℕ → ℕ → ℕ
name_mistake room n start i = name_mistake_of room n start (line_at room i)

unfoldable pub among_mistake : List ℕ → ℕ → ℕ → ℕ → ℕ
among_mistake room n start i = or_else (label_mistake room start i) (or_else (place_mistake room start i) (name_mistake room n start i))

-- ---- The first of all: its line, counted from 1, and its number; 0 and 0 where there is none

pub record MistakeNumbers : Type 0 where
  pub line : ℕ
  pub number : ℕ

abbrev pub mistake_at : ℕ → ℕ → MistakeNumbers
mistake_at line number = record { line = line; number = number }

-- of an answer
abbrev pub mistake_numbers : {T : Type 0} → Result T Mistake → MistakeNumbers
mistake_numbers (Ok _) = mistake_at 0 0
mistake_numbers (Err m) = mistake_at m.line (kind_number m.kind)

-- of an answer
abbrev pub answers_known : {T : Type 0} → Result T Mistake → Bool
answers_known (Ok _) = true
answers_known (Err m) = is_known m.kind

-- "what is wrong in a line by itself, reading it and as a statement, line by line": of the k lines from line i on
unfoldable pub own_mistake : Line → ℕ
own_mistake l = or_else l.wrong (statement_mistake l)

unfoldable pub first_own : List ℕ → ℕ → ℕ → MistakeNumbers
first_own room i zero = mistake_at 0 0
first_own room i (suc k) = let m = own_mistake (line_at room i) in pick (eqb m 0) (first_own room (suc i) k) (mistake_at (suc i) m)

-- "then what is wrong with a line among the others, line by line"
unfoldable pub first_among : List ℕ → ℕ → ℕ → ℕ → MistakeNumbers
first_among room n i zero = mistake_at 0 0
first_among room n i (suc k) =
    let m = among_mistake room n (body_start room i) i in
    pick (eqb m 0) (first_among room n (suc i) k) (mistake_at (suc i) m)

-- the words of the whole program
unfoldable pub program_length : List ℕ → ℕ → ℕ
program_length room n = 6 + 3 * count body_line (lines_at room 0 n) + 2 * count instruction_line (lines_at room 0 n)

unfoldable pub text_mistake : List ℕ → ℕ → ℕ
text_mistake room n =
    let all = lines_at room 0 n in
    or_else (mistake_if (eqb (count memory_line all) 0) no_memory)
    (or_else (mistake_if (eqb (count entry_line all) 0) no_entry) (mistake_if (ltb 65535 (program_length room n)) program_long))

-- "then the mistakes of the text", in its last line
unfoldable pub of_text : List ℕ → ℕ → MistakeNumbers
of_text room n = pick (eqb (text_mistake room n) 0) (mistake_at 0 0) (mistake_at n (text_mistake room n))

unfoldable pub or_next : MistakeNumbers → MistakeNumbers → MistakeNumbers
or_next m next = pick (eqb m.number 0) next m

unfoldable pub mistake_of : List ℕ → ℕ → MistakeNumbers
mistake_of room n = or_next (first_own room 0 n) (or_next (first_among room n 0 n) (of_text room n))
