-- docs/ASSEMBLY.md, "What disassemble prints": from program words to the bytes of a text. A number below 256 is a byte. Assumes nothing.
use Rattle.std.specs.Prelude.{ℕ, zero, suc, ◌-◌, Bool, false, List, [], ◌++◌, eqb, ltb, get_or}
use Rattle.model.specs.Program.{tasks, bodies, memory_words, entry, instructions, transaction, opcode, field_a, field_b, code, operand}
use Rattle.model.specs.Test.{pick, ◌and◌, ◌or◌}
use Rattle.text.specs.Ascii.{ascii}
use Rattle.text.specs.Text.{decimal, spaced}
use Rattle.tokens.specs.Tokens.{statement_names}
use Rattle.tokens.specs.Uses.{uses_a, uses_b, uses_k, is_jump, go_opcode}

-- ---- Names: "task number i is `taskI`, an event `eventI`, the transaction number N `transN`, and `atJ` is the label of instruction J"

unfoldable pub task_name : ℕ → List ℕ
task_name i = ascii "task" ++ decimal i

unfoldable pub event_name : ℕ → List ℕ
event_name i = ascii "event" ++ decimal i

unfoldable pub transaction_name : ℕ → List ℕ
transaction_name n = ascii "trans" ++ decimal n

unfoldable pub label_name : ℕ → List ℕ
label_name j = ascii "at" ++ decimal j

-- ---- "a line `transaction transN N` for each number N, from 1 on, that a task has"

-- one of the first t tasks has the number n
unfoldable pub has_number : List ℕ → ℕ → ℕ → Bool
has_number p n zero = false
has_number p n (suc t) = eqb (transaction p t) n or has_number p n t

unfoldable pub transaction_line : List ℕ → ℕ → List ℕ
transaction_line p n = pick (has_number p n (tasks p)) (ascii "transaction " ++ transaction_name n ++ spaced n ++ ascii "\n") []

-- those of the numbers 1 to n
unfoldable pub transaction_lines : List ℕ → ℕ → List ℕ
transaction_lines p zero = []
transaction_lines p (suc n) = transaction_lines p n ++ transaction_line p (suc n)

-- ---- "An instruction has eight characters before it, spaces or the label with its colon and spaces"

-- one of the first n instructions of body i jumps to instruction j
unfoldable pub is_target : List ℕ → ℕ → ℕ → ℕ → Bool
is_target p i j zero = false
is_target p i j (suc n) = (is_jump (opcode (code p i n)) and eqb (operand p i n) j) or is_target p i j n

-- behind a label and its colon
unfoldable pub spaces : ℕ → List ℕ
spaces j = pick (ltb j 10) (ascii "    ") (pick (ltb j 100) (ascii "   ") (ascii "  "))

unfoldable pub margin : List ℕ → ℕ → ℕ → List ℕ
margin p i j = pick (is_target p i j (instructions p i)) (label_name j ++ ascii ":" ++ spaces j) (ascii "        ")

-- ---- "then the opcode's name in capitals and those of a, b and k that it uses, parted by single spaces"

unfoldable pub register : Bool → ℕ → List ℕ
register used n = pick used (spaced n) []

-- k: a label, a task's name or a number
unfoldable pub target : ℕ → ℕ → List ℕ
target op k = pick (is_jump op) (ascii " " ++ label_name k) (pick (eqb op go_opcode) (ascii " " ++ task_name k) (spaced k))

unfoldable pub instruction_text : ℕ → ℕ → List ℕ
instruction_text w k =
    get_or statement_names (opcode w) []
    ++ register (uses_a (opcode w)) (field_a w)
    ++ register (uses_b (opcode w)) (field_b w)
    ++ pick (uses_k (opcode w)) (target (opcode w) k) []
    ++ ascii "\n"

unfoldable pub instruction_line : List ℕ → ℕ → ℕ → List ℕ
instruction_line p i j = margin p i j ++ instruction_text (code p i j) (operand p i j)

-- the first n instructions of body i
unfoldable pub instruction_lines : List ℕ → ℕ → ℕ → List ℕ
instruction_lines p i zero = []
instruction_lines p i (suc n) = instruction_lines p i n ++ instruction_line p i n

-- ---- "then each body behind an empty line"; "A task of a transaction has `transN` behind its name"

unfoldable pub transaction_word : ℕ → List ℕ
transaction_word n = pick (eqb n 0) [] (ascii " " ++ transaction_name n)

unfoldable pub heading : List ℕ → ℕ → List ℕ
heading p i =
    pick (ltb i (tasks p))
    (ascii "\ntask " ++ task_name i ++ transaction_word (transaction p i) ++ ascii "\n")
    (ascii "\nevent " ++ event_name (i - tasks p) ++ ascii "\n")

-- the first n bodies
unfoldable pub body_lines : List ℕ → ℕ → List ℕ
body_lines p zero = []
body_lines p (suc n) = body_lines p n ++ heading p n ++ instruction_lines p n (instructions p n)

-- ---- The text

-- "`memory` and M; `entry` and the entry task's name"
unfoldable pub first_lines : List ℕ → List ℕ
first_lines p = ascii "memory" ++ spaced (memory_words p) ++ ascii "\nentry " ++ task_name (entry p) ++ ascii "\n"

unfoldable pub listing : List ℕ → List ℕ
listing p = first_lines p ++ transaction_lines p 255 ++ body_lines p (bodies p)
