-- Document 01, refusals 1 to 5: the rules of a program, in the check's order, and the parts of them that a step uses.
use Rattle.std.specs.Prelude.{ℕ, zero, suc, ◌+◌, ◌*◌, Bool, true, List, ltb, leb, eqb, length}
use Rattle.model.specs.Program.{word, program_mark, tasks, events, memory_words, entry, total, bodies, start, instructions, transaction, bodies_start, opcode, field_a, field_b, code, operand, Bounds, bounds, may_be_last}
use Rattle.model.specs.Test.{pick, ◌and◌, must, ◌then◌, each}
use Rattle.model.specs.Types.{Checked, Refusal}

-- "1: program under 6 words, or length unequal to word 5." "2: program mark." "3: T, E, M or entry; place: word index."
unfoldable pub contents_rule : List ℕ → Checked
contents_rule p =
    must (leb 6 (length p)) Refusal.ProgramLength
    then must (eqb (length p) (total p)) Refusal.ProgramLength
    then must (eqb (word p 0) program_mark) Refusal.ProgramMark
    then must (leb 1 (tasks p)) (Refusal.ProgramSize 1)
    then must (leb (tasks p) 32) (Refusal.ProgramSize 1)
    then must (leb (events p) 16) (Refusal.ProgramSize 2)
    then must (leb 1 (memory_words p)) (Refusal.ProgramSize 3)
    then must (leb (memory_words p) 1024) (Refusal.ProgramSize 3)
    then must (ltb (entry p) (tasks p)) (Refusal.ProgramSize 4)

-- "4: rows run past the program (place 0)"
unfoldable pub rows_inside_rule : List ℕ → Checked
rows_inside_rule p = must (leb (bodies_start p) (total p)) (Refusal.Row 0)

-- a row's limits: "instruction count (1 to 256), transaction number (0 none, 1 to 255; 0 for events)"
unfoldable pub limits : List ℕ → ℕ → Checked
limits p i =
    must (leb 1 (instructions p i)) (Refusal.Row i)
    then must (leb (instructions p i) 256) (Refusal.Row i)
    then must (leb (transaction p i) (pick (ltb i (tasks p)) 255 0)) (Refusal.Row i)

-- where body i is due: "The first body starts at 6 + 3 × (T + E). Bodies follow without gaps"
unfoldable pub due : List ℕ → ℕ → ℕ
due p zero = bodies_start p
due p (suc i) = start p i + 2 * instructions p i

-- "a row breaks its rule (place: body)"
unfoldable pub row_rule : List ℕ → ℕ → Checked
row_rule p i = must (eqb (start p i) (due p i)) (Refusal.Row i) then limits p i

-- "or the bodies don't end at the total (place T + E)"
unfoldable pub rows : List ℕ → Checked
rows p =
    rows_inside_rule p
    then each (row_rule p) 0 (bodies p)
    then must (eqb (due p (bodies p)) (total p)) (Refusal.Row (bodies p))

-- what a step asks of a row: "its limits, and its body behind the rows and inside the total"
unfoldable pub row_usable : List ℕ → ℕ → Checked
row_usable p i =
    limits p i
    then must (leb (bodies_start p) (start p i)) (Refusal.Row i)
    then must (leb (start p i + 2 * instructions p i) (total p)) (Refusal.Row i)

-- "5: an instruction breaks its rule; place: body, instruction."
unfoldable pub fields_fit : Bounds → ℕ → ℕ → Bool
fields_fit f w k = ltb (field_a w) f.a and ltb (field_b w) f.b and ltb k f.k

unfoldable pub last_one_fits : List ℕ → ℕ → ℕ → Bool
last_one_fits p i j = pick (eqb (j + 1) (instructions p i)) (may_be_last (opcode (code p i j))) true

unfoldable pub instruction_rule : List ℕ → ℕ → ℕ → Checked
instruction_rule p i j =
    let w = code p i j in
    let f = bounds (memory_words p) (tasks p) (instructions p i) (ltb i (tasks p)) (opcode w) in
    must (fields_fit f w (operand p i j)) (Refusal.Instruction i j)
    then must (last_one_fits p i j) (Refusal.Instruction i j)

unfoldable pub body_rule : List ℕ → ℕ → Checked
body_rule p i = each (instruction_rule p i) 0 (instructions p i)

-- "Order: check 1 to 5"
unfoldable pub check : List ℕ → Checked
check p = contents_rule p then rows p then each (body_rule p) 0 (bodies p)
