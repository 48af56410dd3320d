-- docs/ASSEMBLY.md, "Rules that the check finds broken, by its number and place". Assumes nothing.
use Rattle.model.specs.Types.{Checked, Err, Ok}
use Rattle.std.specs.Prelude.{ℕ, suc, ◌-◌, min, Bool, not, List, eqb, leb, ltb}
use Rattle.model.specs.Answer.{refusal}
use Rattle.model.specs.Check.{check}
use Rattle.model.specs.Program.{tasks, memory_words, instructions, opcode, field_a, field_b, code, operand}
use Rattle.model.specs.Test.{pick, ◌and◌, ◌or◌}
use Rattle.tokens.specs.Uses.{is_jump, go_opcode}
use Rattle.assembly.specs.Lines.{lines_at, memory_line, entry_line, task_line, event_line, body_line, instruction_line, place_of}
use Rattle.assembly.specs.Mistakes.{MistakeNumbers, or_else, mistake_if, mistake_at, or_next, mistake_of, program_long}
use Rattle.assembly.specs.Words.{words}

-- ---- Their numbers

abbrev pub task_count : ℕ
task_count = 23

abbrev pub event_count : ℕ
event_count = 24

abbrev pub memory_size : ℕ
memory_size = 25

abbrev pub no_task_number : ℕ
no_task_number = 26

abbrev pub body_size : ℕ
body_size = 27

abbrev pub transaction_large : ℕ
transaction_large = 28

abbrev pub register_large : ℕ
register_large = 29

abbrev pub shift_large : ℕ
shift_large = 30

abbrev pub address_large : ℕ
address_large = 31

abbrev pub target_large : ℕ
target_large = 32

abbrev pub go_place : ℕ
go_place = 33

abbrev pub done_place : ℕ
done_place = 34

abbrev pub body_end : ℕ
body_end = 35

-- ---- Which it is, by the refusal's number and place in the words p

-- 3, by the word
unfoldable pub size_mistake : ℕ → ℕ
size_mistake i = pick (eqb i 1) task_count (pick (eqb i 2) event_count (pick (eqb i 3) memory_size no_task_number))

-- 4, by the body
unfoldable pub row_mistake : List ℕ → ℕ → ℕ
row_mistake p i = pick (leb 1 (instructions p i) and leb (instructions p i) 256) transaction_large body_size

-- 5, by the instruction's words, in a program of m memory words and t tasks and a body of so many instructions
unfoldable pub operand_mistake : ℕ → ℕ → ℕ → Bool → ℕ → ℕ → ℕ
operand_mistake m t count isTask op k =
    or_else (mistake_if (eqb op 7 and leb 16 k) shift_large)
    (or_else (mistake_if ((leb 8 op and leb op 11) and leb m k) address_large)
    (or_else (mistake_if (is_jump op and leb count k) target_large)
    (or_else (mistake_if (eqb op go_opcode and not isTask) go_place)
    (or_else (mistake_if (eqb op go_opcode and leb t k) no_task_number) (or_else (mistake_if (eqb op 16 and isTask) done_place) body_end)))))

unfoldable pub instruction_mistake : ℕ → ℕ → ℕ → Bool → ℕ → ℕ → ℕ
instruction_mistake m t count isTask w k =
    or_else (mistake_if (leb 8 (field_a w) or leb 8 (field_b w)) register_large) (operand_mistake m t count isTask (opcode w) k)

unfoldable pub instruction_rule : List ℕ → ℕ → ℕ → ℕ
instruction_rule p i j = instruction_mistake (memory_words p) (tasks p) (instructions p i) (ltb i (tasks p)) (code p i j) (operand p i j)

unfoldable pub rule_number : List ℕ → ℕ → ℕ → ℕ → ℕ
rule_number p number i j =
    pick (eqb number 3) (size_mistake i)
    (pick (eqb number 4) (row_mistake p i)
    (pick (eqb number 5) (instruction_rule p i j) program_long))

-- ---- Its line, as a place among n lines; the last where there is none such

unfoldable pub size_place : List ℕ → ℕ → ℕ → ℕ
size_place room n i =
    let all = lines_at room 0 n in
    pick (eqb i 1) (place_of task_line 32 all 0 (n - 1))
    (pick (eqb i 2) (place_of event_line 16 all 0 (n - 1))
    (pick (eqb i 3) (place_of memory_line 0 all 0 (n - 1)) (place_of entry_line 0 all 0 (n - 1))))

unfoldable pub body_place : List ℕ → ℕ → ℕ → ℕ
body_place room n i = place_of body_line i (lines_at room 0 n) 0 (n - 1)

unfoldable pub instruction_place : List ℕ → ℕ → ℕ → ℕ → ℕ
instruction_place room n i j =
    let from = min (body_place room n i) n in
    place_of instruction_line j (lines_at room from (n - from)) from (n - 1)

unfoldable pub rule_place : List ℕ → ℕ → ℕ → ℕ → ℕ → ℕ
rule_place room n number i j =
    pick (eqb number 3) (size_place room n i)
    (pick (eqb number 4) (body_place room n i) (pick (eqb number 5) (instruction_place room n i j) (n - 1)))

-- ---- The mistake of the lines whose words the check accepts or refuses; and the first of all

unfoldable pub explained_by : List ℕ → ℕ → List ℕ → ℕ → ℕ → ℕ → MistakeNumbers
explained_by room n p number i j = mistake_at (suc (rule_place room n number i j)) (rule_number p number i j)

unfoldable pub rule_mistake : List ℕ → ℕ → List ℕ → Checked → MistakeNumbers
rule_mistake room n p (Ok _) = mistake_at 0 0
rule_mistake room n p (Err r) = explained_by room n p (refusal r).number (refusal r).first (refusal r).second

unfoldable pub lines_mistake : List ℕ → ℕ → MistakeNumbers
lines_mistake room n = or_next (mistake_of room n) (rule_mistake room n (words room n) (check (words room n)))
