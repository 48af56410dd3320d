-- Worked rows of programs: what each instruction does and what its fields may be; the rules of a program with their places; formatting.
use Rattle.std.specs.Prelude.{ℕ, ◌+◌, ◌*◌, true, List, [], ◌∷◌, replicate, set, take}
use Rattle.model.specs.Check.{instruction_rule, check}
use Rattle.model.specs.Device.{Outcome, out, refuse, step}
use Rattle.model.specs.Store.{Word, Count, Address, Value, none, to, format, format_check}
use Rattle.model.specs.Types.{Answer, Body, Checked, Err, Half, Ok, Place, Refusal, Resting, Run}
use Rattle.model.specs.Sample.{Row, ◌⇒◌, at, closed, device_with, event1, event_begun, opened, registers, sample, task1, task_begun, with_instruction}

-- ---- Each opcode, as instruction 2 of task 1

abbrev executed : ℕ → ℕ → Outcome
executed w k = step (with_instruction w k) (task_begun opened) (at (task1 2))

-- a register becomes a value; the body goes on at an instruction; the step stores a word and goes on at a place
abbrev becomes : ℕ → ℕ → Outcome
becomes a x = out none (device_with true (set registers a x) (task1 3) 1 Resting) Answer.Worked

abbrev goes_to : ℕ → Outcome
goes_to k = out none (at (task1 k)) Answer.Worked

abbrev pub stores_word : Word → ℕ → Place → Outcome
stores_word w x place = out (to w x) (at place) Answer.Stored

-- registers: 0, 2, 5, 12, 10, -5, hex 7FFF, hex 8000; the log has 777 for address 2
unfoldable pub meanings : List (Row Outcome)
meanings =
    executed 0x0020 0xABCD ⇒ becomes 2 0xABCD  -- SET 2
    ∷ executed 0x0134 0 ⇒ becomes 3 10  -- MOV 3 4
    ∷ executed 0x0253 0 ⇒ becomes 5 7  -- ADD 5 3: -5 + 12
    ∷ executed 0x0334 0 ⇒ becomes 3 2  -- SUB 3 4: 12 - 10
    ∷ executed 0x0343 0 ⇒ becomes 4 0xFFFE  -- SUB 4 3: 10 - 12
    ∷ executed 0x0434 0 ⇒ becomes 3 8  -- AND 3 4: 1100, 1010
    ∷ executed 0x0534 0 ⇒ becomes 3 14  -- OR 3 4
    ∷ executed 0x0634 0 ⇒ becomes 3 6  -- XOR 3 4
    ∷ executed 0x0750 1 ⇒ becomes 5 0xFFFD  -- SHR 5 1: -5 / 2, rounded down to -3
    ∷ executed 0x0750 0 ⇒ becomes 5 0xFFFB  -- SHR 5 0
    ∷ executed 0x0720 1 ⇒ becomes 2 2  -- SHR 2 1: 5 / 2
    ∷ executed 0x0770 3 ⇒ becomes 7 0xF000  -- SHR 7 3: -32768 / 8
    ∷ executed 0x0830 2 ⇒ becomes 3 777  -- LOAD 3 2, from the log
    ∷ executed 0x0830 3 ⇒ becomes 3 103  -- LOAD 3 3: pair 1 isn't in the log yet
    ∷ executed 0x0A31 3 ⇒ becomes 3 105  -- LOADX 3 1 3: memory word 3 + 2
    ∷ executed 0x0A31 0 ⇒ becomes 3 777  -- LOADX 3 1 0
    ∷ executed 0x0A31 4 ⇒ refuse (at (task1 2)) Refusal.Address  -- LOADX 3 1 4: word 6
    ∷ executed 0x0930 2 ⇒ stores_word (Value 0) 12 (task1 3)  -- SAVE 3 2, overwrites
    ∷ executed 0x0930 3 ⇒ stores_word (Address 1) 3 (Half (Body.Task 1) 2)  -- SAVE 3 3
    ∷ executed 0x0B31 3 ⇒ stores_word (Address 1) 5 (Half (Body.Task 1) 2)  -- SAVEX 3 1 3: memory word 3 + 2
    ∷ executed 0x0B31 0 ⇒ stores_word (Value 0) 12 (task1 3)  -- SAVEX 3 1 0
    ∷ executed 0x0B31 4 ⇒ refuse (at (task1 2)) Refusal.Address  -- SAVEX 3 1 4: word 6
    ∷ executed 0x0C00 1 ⇒ goes_to 1  -- JUMP 1
    ∷ executed 0x0D00 1 ⇒ goes_to 1  -- JZ 0 1
    ∷ executed 0x0D10 1 ⇒ goes_to 3  -- JZ 1 1
    ∷ executed 0x0E43 1 ⇒ goes_to 1  -- JLT 4 3 1: 10 is below 12
    ∷ executed 0x0E34 1 ⇒ goes_to 3  -- JLT 3 4 1
    ∷ executed 0x0E33 1 ⇒ goes_to 3  -- JLT 3 3 1
    ∷ executed 0x0E52 1 ⇒ goes_to 1  -- JLT 5 2 1: -5 is below 5
    ∷ executed 0x0E25 1 ⇒ goes_to 3  -- JLT 2 5 1
    ∷ executed 0x0E75 1 ⇒ goes_to 1  -- JLT 7 5 1: -32768 is below -5
    ∷ executed 0x0F00 3 ⇒ stores_word Count 1 (Run (Body.Task 1) 2 1)  -- GO 3
    ∷ step sample (event_begun closed) (at (event1 1)) ⇒ stores_word Count 1 (Run (Body.Event 1) 1 1)  -- DONE
    ∷ []

-- ---- The fields of an instruction

-- instruction 2 of task 1 with these fields, and with a, b or k larger by one
abbrev checked : ℕ → ℕ → ℕ → ℕ → Checked
checked op a b k = instruction_rule (with_instruction (op * 256 + a * 16 + b) k) 1 2

abbrev largest : ℕ → ℕ → ℕ → ℕ → List Checked
largest op a b k = checked op a b k ∷ checked op (a + 1) b k ∷ checked op a (b + 1) k ∷ checked op a b (k + 1) ∷ []

abbrev wrong : Checked
wrong = Err (Refusal.Instruction 1 2)

abbrev no_larger : List Checked
no_larger = Ok tt ∷ wrong ∷ wrong ∷ wrong ∷ []

-- M is 6, T is 5, task 1 has 4 instructions
unfoldable pub fields : List (Row (List Checked))
fields =
    (checked 0 7 0 0xFFFF ∷ checked 0 8 0 0xFFFF ∷ checked 0 7 1 0xFFFF ∷ []) ⇒ (Ok tt ∷ wrong ∷ wrong ∷ [])  -- SET
    ∷ largest 1 7 7 0 ⇒ no_larger  -- MOV
    ∷ largest 2 7 7 0 ⇒ no_larger  -- ADD
    ∷ largest 3 7 7 0 ⇒ no_larger  -- SUB
    ∷ largest 4 7 7 0 ⇒ no_larger  -- AND
    ∷ largest 5 7 7 0 ⇒ no_larger  -- OR
    ∷ largest 6 7 7 0 ⇒ no_larger  -- XOR
    ∷ largest 7 7 0 15 ⇒ no_larger  -- SHR
    ∷ largest 8 7 0 5 ⇒ no_larger  -- LOAD
    ∷ largest 9 7 0 5 ⇒ no_larger  -- SAVE
    ∷ largest 10 7 7 5 ⇒ no_larger  -- LOADX
    ∷ largest 11 7 7 5 ⇒ no_larger  -- SAVEX
    ∷ largest 12 0 0 3 ⇒ no_larger  -- JUMP
    ∷ largest 13 7 0 3 ⇒ no_larger  -- JZ
    ∷ largest 14 7 7 3 ⇒ no_larger  -- JLT
    ∷ largest 15 0 0 4 ⇒ no_larger  -- GO
    ∷ []

-- the opcodes that the rule accepts in instruction j of body i, at word w, its fields 0
unfoldable pub if_accepted : Checked → ℕ → List ℕ → List ℕ
if_accepted (Ok _) op ops = op ∷ ops
if_accepted (Err r) op ops = ops

unfoldable pub accepted_of : List ℕ → ℕ → ℕ → ℕ → List ℕ
accepted_of [] i j w = []
accepted_of (op ∷ ops) i j w = if_accepted (instruction_rule (set (set sample w (op * 256)) (w + 1) 0) i j) op (accepted_of ops i j w)

abbrev accepted_at : ℕ → ℕ → ℕ → List ℕ
accepted_at = accepted_of (0 ∷ 1 ∷ 2 ∷ 3 ∷ 4 ∷ 5 ∷ 6 ∷ 7 ∷ 8 ∷ 9 ∷ 10 ∷ 11 ∷ 12 ∷ 13 ∷ 14 ∷ 15 ∷ 16 ∷ 17 ∷ 18 ∷ 255 ∷ [])

unfoldable pub opcodes : List (Row (List ℕ))
opcodes =
    accepted_at 1 2 33 ⇒ (0 ∷ 1 ∷ 2 ∷ 3 ∷ 4 ∷ 5 ∷ 6 ∷ 7 ∷ 8 ∷ 9 ∷ 10 ∷ 11 ∷ 12 ∷ 13 ∷ 14 ∷ 15 ∷ [])  -- inside task 1
    ∷ accepted_at 1 3 35 ⇒ (12 ∷ 15 ∷ [])  -- the last of task 1
    ∷ accepted_at 5 0 43 ⇒ (0 ∷ 1 ∷ 2 ∷ 3 ∷ 4 ∷ 5 ∷ 6 ∷ 7 ∷ 8 ∷ 9 ∷ 10 ∷ 11 ∷ 12 ∷ 13 ∷ 14 ∷ 16 ∷ [])  -- inside event 0
    ∷ accepted_at 5 1 45 ⇒ (12 ∷ 16 ∷ [])  -- the last of event 0
    ∷ []

-- ---- The rules of a program, with their places

-- one task, no events, no instruction: the contents and one row
abbrev rows_only : ℕ → ℕ → List ℕ
rows_only total start = 0xC0B1 ∷ 1 ∷ 0 ∷ 1 ∷ 0 ∷ total ∷ start ∷ 1 ∷ 0 ∷ []

unfoldable pub programs : List (Row Checked)
programs =
    check sample ⇒ Ok tt
    ∷ check [] ⇒ Err Refusal.ProgramLength
    ∷ check (take 5 sample) ⇒ Err Refusal.ProgramLength
    ∷ check (set sample 5 50) ⇒ Err Refusal.ProgramLength
    ∷ check (set sample 5 52) ⇒ Err Refusal.ProgramLength
    ∷ check (set sample 0 0xC0A2) ⇒ Err Refusal.ProgramMark
    -- "3: T, E, M or entry; place: word index"
    ∷ check (set sample 1 0) ⇒ Err (Refusal.ProgramSize 1)
    ∷ check (set sample 1 33) ⇒ Err (Refusal.ProgramSize 1)
    ∷ check (set sample 2 17) ⇒ Err (Refusal.ProgramSize 2)
    ∷ check (set sample 3 0) ⇒ Err (Refusal.ProgramSize 3)
    ∷ check (set sample 3 1025) ⇒ Err (Refusal.ProgramSize 3)
    ∷ check (set sample 3 1024) ⇒ Ok tt
    ∷ check (set sample 4 5) ⇒ Err (Refusal.ProgramSize 4)
    ∷ check (set sample 4 4) ⇒ Ok tt
    -- "4: rows run past the program (place 0)": 32 tasks and 16 events are allowed, but there is no room for their rows
    ∷ check (set sample 1 32) ⇒ Err (Refusal.Row 0)
    ∷ check (set sample 2 16) ⇒ Err (Refusal.Row 0)
    ∷ check (take 6 (rows_only 6 9)) ⇒ Err (Refusal.Row 0)
    ∷ check (take 8 (rows_only 8 9)) ⇒ Err (Refusal.Row 0)
    ∷ check (rows_only 9 9) ⇒ Err (Refusal.Row 1)
    -- "a row breaks its rule (place: body)"
    ∷ check (set sample 6 28) ⇒ Err (Refusal.Row 0)
    ∷ check (set sample 12 38) ⇒ Err (Refusal.Row 2)
    ∷ check (set sample 10 0) ⇒ Err (Refusal.Row 1)
    ∷ check (set sample 10 3) ⇒ Err (Refusal.Row 2)
    ∷ check (set sample 25 257) ⇒ Err (Refusal.Row 6)
    ∷ check (set sample 11 255) ⇒ Ok tt
    ∷ check (set sample 11 256) ⇒ Err (Refusal.Row 1)
    ∷ check (set sample 20 255) ⇒ Ok tt
    ∷ check (set sample 23 1) ⇒ Err (Refusal.Row 5)
    -- "or the bodies don't end at the total (place T + E)"
    ∷ check (set sample 25 256) ⇒ Err (Refusal.Row 7)
    ∷ check (set sample 25 1) ⇒ Err (Refusal.Row 7)
    -- "5: an instruction breaks its rule; place: body, instruction"
    ∷ check (set sample 27 0x1100) ⇒ Err (Refusal.Instruction 0 0)
    ∷ check (set sample 31 0x1100) ⇒ Err (Refusal.Instruction 1 1)
    ∷ check (set sample 49 0xFF00) ⇒ Err (Refusal.Instruction 6 1)
    ∷ check (set sample 45 0x1010) ⇒ Err (Refusal.Instruction 5 1)
    ∷ check (set sample 45 0x1001) ⇒ Err (Refusal.Instruction 5 1)
    ∷ check (set sample 46 1) ⇒ Err (Refusal.Instruction 5 1)
    -- "check 1 to 5": with two faults, the first
    ∷ check (set (set sample 0 0) 5 50) ⇒ Err Refusal.ProgramLength
    ∷ check (set (set sample 0 0) 1 0) ⇒ Err Refusal.ProgramMark
    ∷ check (set (set sample 2 17) 1 0) ⇒ Err (Refusal.ProgramSize 1)
    ∷ check (set (set sample 3 0) 2 17) ⇒ Err (Refusal.ProgramSize 2)
    ∷ check (set (set sample 4 5) 3 0) ⇒ Err (Refusal.ProgramSize 3)
    ∷ check (set (set sample 6 28) 4 5) ⇒ Err (Refusal.ProgramSize 4)
    ∷ check (set (set sample 10 0) 1 32) ⇒ Err (Refusal.Row 0)
    ∷ check (set (set sample 20 256) 11 256) ⇒ Err (Refusal.Row 1)
    ∷ check (set (set sample 25 1) 11 256) ⇒ Err (Refusal.Row 1)
    ∷ check (set (set sample 27 0x1100) 25 1) ⇒ Err (Refusal.Row 7)
    ∷ check (set (set sample 47 0x1100) 33 0x1100) ⇒ Err (Refusal.Instruction 1 2)
    ∷ check (set (set sample 33 0x1100) 29 0x1100) ⇒ Err (Refusal.Instruction 1 0)
    ∷ []

-- ---- Formatting

unfoldable pub formats : List (Row Checked)
formats =
    format_check sample 2 3 (replicate 35 7) ⇒ Ok tt
    ∷ format_check sample 2 3 (replicate 34 7) ⇒ Err Refusal.StoreContents
    ∷ format_check sample 2 3 (replicate 36 7) ⇒ Err Refusal.StoreContents
    ∷ format_check sample 0 3 (replicate 31 7) ⇒ Err Refusal.StoreSize
    ∷ format_check sample 65 3 (replicate 161 7) ⇒ Err Refusal.StoreSize
    ∷ format_check sample 2 0 (replicate 29 7) ⇒ Err Refusal.StoreSize
    ∷ format_check sample 2 33 (replicate 95 7) ⇒ Err Refusal.StoreSize
    ∷ format_check sample 1 1 (replicate 29 7) ⇒ Ok tt
    ∷ format_check sample 64 32 (replicate 217 7) ⇒ Ok tt
    ∷ format_check sample 0 3 [] ⇒ Err Refusal.StoreSize
    ∷ format_check (set sample 33 0x1100) 0 3 (replicate 31 7) ⇒ Err (Refusal.Instruction 1 2)
    ∷ []

unfoldable pub formatted_stores : List (Row (List ℕ))
formatted_stores =
    format sample 2 3 (replicate 35 7)
    ⇒ (0xC0A2 ∷ 6 ∷ 2 ∷ 3 ∷ 8 ∷ 17 ∷ 23 ∷ 27
    ∷ 0 ∷ 1 ∷ 0 ∷ 0 ∷ 0 ∷ 0 ∷ 0 ∷ 0 ∷ 0
    ∷ 0 ∷ 0 ∷ 0 ∷ 0 ∷ 0 ∷ 0
    ∷ 0 ∷ 0 ∷ 0 ∷ 0
    ∷ 0 ∷ 0 ∷ 0 ∷ 0 ∷ 0 ∷ 0 ∷ 0 ∷ 0
    ∷ [])
    ∷ format sample 2 3 (replicate 34 7) ⇒ replicate 34 7
    ∷ []
