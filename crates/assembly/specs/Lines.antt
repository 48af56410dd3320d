-- docs/ASSEMBLY.md, "Statements": a text's lines, six numbers each as crate tokens reads them, and what is looked up in them. Assumes nothing.
use Rattle.std.specs.Prelude.{ℕ, zero, suc, ◌+◌, ◌-◌, ◌*◌, Bool, true, false, List, [], ◌∷◌, eqb, leb, ltb}
use Rattle.model.specs.Program.{word}
use Rattle.model.specs.Test.{pick, ◌and◌}
use Rattle.tokens.specs.declared.SourceLine.{SourceLine}

-- ---- Lines: what is wrong in it, its label, its statement, and the words behind that

pub record Line : Type 0 where
  pub wrong : ℕ
  pub label : ℕ
  pub statement : ℕ
  pub first : ℕ
  pub second : ℕ
  pub third : ℕ

-- a line of crate tokens, with what is wrong in it by its number
abbrev pub as_line : SourceLine → Line
as_line l =
    record { wrong = l.wrong; label = l.label; statement = l.statement; first = l.first; second = l.second; third = l.third }

unfoldable pub as_lines : List SourceLine → List Line
as_lines [] = []
as_lines (l ∷ ls) = as_line l ∷ as_lines ls

unfoldable pub line_at : List ℕ → ℕ → Line
line_at room i =
    record {
      wrong = word room (6 * i);
      label = word room (6 * i + 1);
      statement = word room (6 * i + 2);
      first = word room (6 * i + 3);
      second = word room (6 * i + 4);
      third = word room (6 * i + 5);
    }

-- so many lines from line i on
unfoldable pub lines_at : List ℕ → ℕ → ℕ → List Line
lines_at room i zero = []
lines_at room i (suc n) = line_at room i ∷ lines_at room (suc i) n

-- ---- Classes of lines: a statement's number, a body (task or event), an instruction

abbrev pub memory_line : ℕ
memory_line = 18

abbrev pub entry_line : ℕ
entry_line = 19

abbrev pub transaction_line : ℕ
transaction_line = 20

abbrev pub task_line : ℕ
task_line = 21

abbrev pub event_line : ℕ
event_line = 22

abbrev pub other_line : ℕ
other_line = 23

abbrev pub body_line : ℕ
body_line = 24

abbrev pub instruction_line : ℕ
instruction_line = 25

unfoldable pub is_body : Line → Bool
is_body l = leb task_line l.statement and leb l.statement event_line

unfoldable pub is_instruction : Line → Bool
is_instruction l = leb 1 l.statement and leb l.statement 17

unfoldable pub is_of : ℕ → Line → Bool
is_of class l = pick (eqb class body_line) (is_body l) (pick (eqb class instruction_line) (is_instruction l) (eqb l.statement class))

unfoldable pub one : ℕ → Line → ℕ
one class l = pick (is_of class l) 1 0

-- ---- Words: a number n is n + 1, a name is larger than every number

abbrev pub is_name_word : ℕ → Bool
is_name_word w = ltb 65536 w

abbrev pub value : ℕ → ℕ
value w = w - 1

-- none of so many lines
abbrev pub none : ℕ
none = 65536

-- ---- What is looked up

-- how many lines of a class there are, beside n
unfoldable pub count_from : ℕ → List Line → ℕ → ℕ
count_from class [] n = n
count_from class (l ∷ ls) n = count_from class ls (n + one class l)

abbrev pub count : ℕ → List Line → ℕ
count class ls = count_from class ls 0

-- how many instructions come before the next body, beside n
unfoldable pub body_count : List Line → ℕ → ℕ
body_count [] n = n
body_count (l ∷ ls) n = pick (is_body l) n (body_count ls (n + one instruction_line l))

unfoldable pub is_named : ℕ → ℕ → Line → Bool
is_named statement name l = eqb l.statement statement and eqb l.first name

-- the number, from n on, of the statement that has the name
unfoldable pub numbered : ℕ → ℕ → List Line → ℕ → ℕ
numbered statement name [] n = none
numbered statement name (l ∷ ls) n = pick (is_named statement name l) n (numbered statement name ls (n + one statement l))

-- the number that a transaction's name stands for
unfoldable pub transaction_value : ℕ → List Line → ℕ
transaction_value name [] = none
transaction_value name (l ∷ ls) = pick (is_named transaction_line name l) (value l.second) (transaction_value name ls)

-- "it is the number of the body's next instruction, on this line or below"
unfoldable pub label_number : ℕ → List Line → ℕ → ℕ
label_number name [] n = none
label_number name (l ∷ ls) n = pick (is_body l) none (pick (eqb l.label name) n (label_number name ls (n + one instruction_line l)))

unfoldable pub has_label : ℕ → List Line → Bool
has_label name [] = false
has_label name (l ∷ ls) = pick (eqb l.label name) true (has_label name ls)

-- the first word of the first such statement; 0 where there is none
unfoldable pub given : ℕ → List Line → ℕ
given statement [] = 0
given statement (l ∷ ls) = pick (eqb l.statement statement) l.first (given statement ls)

-- the place, from i on, of the line of a class that has so many before it; the last where there is none
unfoldable pub place_of : ℕ → ℕ → List Line → ℕ → ℕ → ℕ
place_of class k [] i last = last
place_of class k (l ∷ ls) i last = pick (is_of class l and eqb k 0) i (place_of class (k - one class l) ls (suc i) last)

-- the place where the body of line i begins: behind the last task or event above; 0 where there is none
unfoldable pub body_start : List ℕ → ℕ → ℕ
body_start room zero = 0
body_start room (suc i) = pick (is_body (line_at room i)) (suc i) (body_start room i)
