-- The lines that the text of a program is read as, statement by statement, as crate listing prints them. They stand between the two
-- halves of the proof, reading the text and assembling its lines; no claim rests on them. Assumes nothing.
use Rattle.std.specs.Prelude.{ℕ, zero, suc, ◌-◌, ◌+◌, Bool, List, [], ◌∷◌, ◌++◌, eqb, ltb, get_or}
use Rattle.assembly.specs.Lines.{memory_line, entry_line, transaction_line, task_line, event_line}
use Rattle.assembly.specs.Lines.{Line}
use Rattle.listing.specs.Listing.{task_name, event_name, transaction_name, label_name, has_number, is_target}
use Rattle.model.specs.Program.{tasks, bodies, memory_words, entry, instructions, transaction, opcode, field_a, field_b, code, operand}
use Rattle.model.specs.Test.{pick}
use Rattle.tokens.specs.Tokens.{number, named}
use Rattle.tokens.specs.Uses.{uses_a, uses_b, uses_k, is_jump, go_opcode}

-- a line in which nothing is wrong: its label, its statement and the words behind that, 0 where there is none
abbrev pub line : ℕ → ℕ → ℕ → ℕ → ℕ → Line
line label statement first second third =
    record { wrong = 0; label = label; statement = statement; first = first; second = second; third = third }

abbrev pub blank : Line
blank = line 0 0 0 0 0

-- ---- The first lines

abbrev pub memory_of : List ℕ → Line
memory_of p = line 0 memory_line (number (memory_words p)) 0 0

abbrev pub entry_of : List ℕ → Line
entry_of p = line 0 entry_line (named (task_name (entry p))) 0 0

abbrev pub transaction_of : ℕ → Line
transaction_of n = line 0 transaction_line (named (transaction_name n)) (number n) 0

unfoldable pub transactions_of : List ℕ → ℕ → List Line
transactions_of p zero = []
transactions_of p (suc n) = transactions_of p n ++ pick (has_number p (suc n) (tasks p)) (transaction_of (suc n) ∷ []) []

-- ---- Bodies

unfoldable pub heading_of : List ℕ → ℕ → Line
heading_of p i =
    pick (ltb i (tasks p))
    (line 0 task_line (named (task_name i)) (pick (eqb (transaction p i) 0) 0 (named (transaction_name (transaction p i)))) 0)
    (line 0 event_line (named (event_name (i - tasks p))) 0 0)

-- k as a word: a label, a task's name or a number
unfoldable pub operand_word : ℕ → ℕ → ℕ
operand_word op k = pick (is_jump op) (named (label_name k)) (pick (eqb op go_opcode) (named (task_name k)) (number k))

unfoldable pub if_used : Bool → ℕ → List ℕ
if_used used word = pick used (word ∷ []) []

-- the words behind an opcode's name
unfoldable pub operand_words : ℕ → ℕ → List ℕ
operand_words w k =
    if_used (uses_a (opcode w)) (number (field_a w))
    ++ if_used (uses_b (opcode w)) (number (field_b w))
    ++ if_used (uses_k (opcode w)) (operand_word (opcode w) k)

unfoldable pub label_of : List ℕ → ℕ → ℕ → ℕ
label_of p i j = pick (is_target p i j (instructions p i)) (named (label_name j)) 0

unfoldable pub instruction_of : List ℕ → ℕ → ℕ → Line
instruction_of p i j =
    let ws = operand_words (code p i j) (operand p i j) in
    line (label_of p i j) (opcode (code p i j) + 1) (get_or ws 0 0) (get_or ws 1 0) (get_or ws 2 0)

unfoldable pub instructions_of : List ℕ → ℕ → ℕ → List Line
instructions_of p i zero = []
instructions_of p i (suc n) = instructions_of p i n ++ (instruction_of p i n ∷ [])

abbrev pub body_of : List ℕ → ℕ → List Line
body_of p i = blank ∷ heading_of p i ∷ instructions_of p i (instructions p i)

unfoldable pub bodies_of : List ℕ → ℕ → List Line
bodies_of p zero = []
bodies_of p (suc n) = bodies_of p n ++ body_of p n

-- ---- The text: behind its last line feed is a line, too

unfoldable pub expected : List ℕ → List Line
expected p = (memory_of p ∷ entry_of p ∷ transactions_of p 255) ++ bodies_of p (bodies p) ++ (blank ∷ [])

-- lines as six numbers each
unfoldable pub flat : List Line → List ℕ
flat [] = []
flat (l ∷ ls) = l.wrong ∷ l.label ∷ l.statement ∷ l.first ∷ l.second ∷ l.third ∷ flat ls
