-- docs/ASSEMBLY.md, first sentences: "Rows, starts, counts and the total are worked out". The program words of a text's n lines. Assumes nothing.
use Rattle.std.specs.Prelude.{ℕ, zero, suc, ◌+◌, ◌-◌, ◌*◌, min, List, [], ◌∷◌, ◌++◌, eqb}
use Rattle.model.specs.Program.{program_mark}
use Rattle.model.specs.Test.{pick}
use Rattle.tokens.specs.Uses.{uses_a, uses_b, uses_k, is_jump, go_opcode}
use Rattle.assembly.specs.Lines.{Line, line_at, lines_at, memory_line, entry_line, task_line, event_line, body_line, instruction_line, is_body, is_instruction, is_name_word, value, count, body_count, numbered, transaction_value, label_number, given, body_start}
use Rattle.assembly.specs.Mistakes.{opcode_of, operand_of, transaction_word, program_length}

-- what doesn't fit is the largest value, which no rule allows: a word, and a register
unfoldable pub as_word : ℕ → ℕ
as_word n = min n 65535

unfoldable pub as_register : ℕ → ℕ
as_register n = min n 15

-- ---- What a name or a number stands for

unfoldable pub task_of : List ℕ → ℕ → ℕ → ℕ
task_of room n w = pick (is_name_word w) (numbered task_line w (lines_at room 0 n) 0) (value w)

unfoldable pub label_of : List ℕ → ℕ → ℕ → ℕ → ℕ
label_of room n start w = pick (is_name_word w) (label_number w (lines_at room start (n - start)) 0) (value w)

unfoldable pub transaction_of : List ℕ → ℕ → ℕ → ℕ
transaction_of room n w = pick (is_name_word w) (transaction_value w (lines_at room 0 n)) (value w)

-- ---- Instructions

unfoldable pub first_word : Line → ℕ
first_word l =
    256 * opcode_of l
    + 16 * pick (uses_a (opcode_of l)) (as_register (value l.first)) 0
    + pick (uses_b (opcode_of l)) (as_register (value l.second)) 0

-- k, of an instruction in the body that begins at start
unfoldable pub second_word : List ℕ → ℕ → ℕ → Line → ℕ
second_word room n start l =
    as_word
    (pick (is_jump (opcode_of l)) (label_of room n start (operand_of l))
    (pick (eqb (opcode_of l) go_opcode) (task_of room n (operand_of l)) (pick (uses_k (opcode_of l)) (value (operand_of l)) 0)))

unfoldable pub instruction_words : List ℕ → ℕ → ℕ → Line → List ℕ
instruction_words room n start l = pick (is_instruction l) (first_word l ∷ second_word room n start l ∷ []) []

-- those of the first i lines
unfoldable pub body_words : List ℕ → ℕ → ℕ → List ℕ
body_words room n zero = []
body_words room n (suc i) = body_words room n i ++ instruction_words room n (body_start room i) (line_at room i)

-- ---- Rows

-- where the body of line i begins among the words
unfoldable pub start_of : List ℕ → ℕ → ℕ → ℕ
start_of room n i = 6 + 3 * count body_line (lines_at room 0 n) + 2 * count instruction_line (lines_at room 0 i)

unfoldable pub row_words : List ℕ → ℕ → ℕ → List ℕ
row_words room n i =
    pick (is_body (line_at room i))
    (as_word (start_of room n i)
    ∷ as_word (body_count (lines_at room (suc i) (n - suc i)) 0)
    ∷ as_word (transaction_of room n (transaction_word (line_at room i)))
    ∷ [])
    []

unfoldable pub rows : List ℕ → ℕ → ℕ → List ℕ
rows room n zero = []
rows room n (suc i) = rows room n i ++ row_words room n i

-- ---- The program

unfoldable pub contents : List ℕ → ℕ → List ℕ
contents room n =
    let all = lines_at room 0 n in
    program_mark
    ∷ as_word (count task_line all)
    ∷ as_word (count event_line all)
    ∷ as_word (value (given memory_line all))
    ∷ as_word (task_of room n (given entry_line all))
    ∷ as_word (program_length room n)
    ∷ []

unfoldable pub words : List ℕ → ℕ → List ℕ
words room n = contents room n ++ rows room n n ++ body_words room n n
