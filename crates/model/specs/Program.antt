-- Document 01, "Program words": the table of contents, the rows, the bodies and the instructions, for any list of words.
-- A word that isn't there reads as 0; the checks of Check.antt say when that can't happen.
use Rattle.std.specs.Prelude.{ℕ, ◌+◌, ◌-◌, ◌*◌, ◌/◌, ◌%◌, ◌^◌, Bool, true, List, [], ◌∷◌, ltb, eqb, ℤ, pos, negsuc, get_or, replicate}
use Rattle.std.specs.Int.Bits.{bit_and, bit_or, bit_xor}
use Rattle.std.specs.Int.Signed.{lt_z, shr_z}
use Rattle.model.specs.Test.{pick}
use Rattle.model.specs.Types.{Body, Effect, Instruction}

abbrev pub word : List ℕ → ℕ → ℕ
word ws i = get_or ws i 0

-- ---- "Words 0 to 5: mark (hex C0B1), tasks T (1 to 32), events E (0 to 16), memory words M (1 to 1024), entry task (below
-- T), total words."

unfoldable pub program_mark : ℕ
program_mark = 0xC0B1

abbrev pub tasks : List ℕ → ℕ
tasks p = word p 1

abbrev pub events : List ℕ → ℕ
events p = word p 2

abbrev pub memory_words : List ℕ → ℕ
memory_words p = word p 3

abbrev pub entry : List ℕ → ℕ
entry p = word p 4

abbrev pub total : List ℕ → ℕ
total p = word p 5

-- ---- "Then a row of three words for each task, then each event: start, instruction count (1 to 256), transaction number (0
-- none, 1 to 255; 0 for events). The first body starts at 6 + 3 × (T + E)."

abbrev pub bodies : List ℕ → ℕ
bodies p = tasks p + events p

abbrev pub row_at : ℕ → ℕ
row_at i = 6 + 3 * i

abbrev pub start : List ℕ → ℕ → ℕ
start p i = word p (row_at i)

abbrev pub instructions : List ℕ → ℕ → ℕ
instructions p i = word p (row_at i + 1)

abbrev pub transaction : List ℕ → ℕ → ℕ
transaction p i = word p (row_at i + 2)

abbrev pub bodies_start : List ℕ → ℕ
bodies_start p = row_at (bodies p)

-- a body's number among all: tasks first
unfoldable pub body_number : List ℕ → Body → ℕ
body_number p (Body.Task t) = t
body_number p (Body.Event e) = tasks p + e

-- ---- "An instruction is two words: opcode × 256 + a × 16 + b, then k."

abbrev pub opcode : ℕ → ℕ
opcode w = w / 256

abbrev pub field_a : ℕ → ℕ
field_a w = w / 16 % 16

abbrev pub field_b : ℕ → ℕ
field_b w = w % 16

-- the two words of instruction j of body i
abbrev pub code : List ℕ → ℕ → ℕ → ℕ
code p i j = word p (start p i + 2 * j)

abbrev pub operand : List ℕ → ℕ → ℕ → ℕ
operand p i j = word p (start p i + 2 * j + 1)

-- The opcode table, its columns "opcode" and "uses". "Opcodes 17 to 255 are refused."
abbrev pub instruction_table : ℕ → ℕ → ℕ → List Instruction
instruction_table a b k =
    Instruction.Set a k
    ∷ Instruction.Move a b
    ∷ Instruction.Add a b
    ∷ Instruction.Sub a b
    ∷ Instruction.And a b
    ∷ Instruction.Or a b
    ∷ Instruction.Xor a b
    ∷ Instruction.Shift a k
    ∷ Instruction.Load a k
    ∷ Instruction.Save a k
    ∷ Instruction.LoadX a b k
    ∷ Instruction.SaveX a b k
    ∷ Instruction.Jump k
    ∷ Instruction.JumpZero a k
    ∷ Instruction.JumpLess a b k
    ∷ Instruction.Go k
    ∷ Instruction.Done
    ∷ []

unfoldable pub decode : ℕ → ℕ → ℕ → ℕ → Instruction
decode op a b k = get_or (instruction_table a b k) op Instruction.Unknown

-- What each field is below: 8 for a register, 1 where the field is unused and so 0. "A jump's k is below its body's count, GO's
-- below T"; "k 0 to 15"; "k below M"; "GO stands only in tasks, DONE only in events": in the other kind no k will do.
pub record Bounds : Type 0 where
  pub a : ℕ
  pub b : ℕ
  pub k : ℕ

abbrev below : ℕ → ℕ → ℕ → Bounds
below a b k = record { a = a; b = b; k = k }

-- by opcode, for a program of m memory words and t tasks and a body of n instructions
abbrev pub bounds_table : (m t n : ℕ) (isTask : Bool) → List Bounds
bounds_table m t n isTask =
    below 8 1 65536  -- SET
    ∷ below 8 8 1  -- MOV
    ∷ below 8 8 1  -- ADD
    ∷ below 8 8 1  -- SUB
    ∷ below 8 8 1  -- AND
    ∷ below 8 8 1  -- OR
    ∷ below 8 8 1  -- XOR
    ∷ below 8 1 16  -- SHR
    ∷ below 8 1 m  -- LOAD
    ∷ below 8 1 m  -- SAVE
    ∷ below 8 8 m  -- LOADX
    ∷ below 8 8 m  -- SAVEX
    ∷ below 1 1 n  -- JUMP
    ∷ below 8 1 n  -- JZ
    ∷ below 8 8 n  -- JLT
    ∷ below 1 1 (pick isTask t 0)  -- GO
    ∷ below 1 1 (pick isTask 0 1)  -- DONE
    ∷ []

unfoldable pub bounds : (m t n : ℕ) (isTask : Bool) → ℕ → Bounds
bounds m t n isTask op = get_or (bounds_table m t n isTask) op (below 0 0 0)

-- "A body's last instruction is JUMP, GO or DONE."
unfoldable pub may_be_last : ℕ → Bool
may_be_last op = pick (eqb op 12) true (pick (eqb op 15) true (eqb op 16))

-- ---- The column "meaning", memory aside

-- a word read as two's complement, and back
unfoldable pub signed : ℕ → ℤ
signed x = pick (ltb x 32768) (pos x) (negsuc (65535 - x))

unfoldable pub unsigned : ℤ → ℕ
unsigned (pos n) = n
unsigned (negsuc n) = 65535 - n

-- "a read as two's complement, divided by 2 to the k, rounded down"
unfoldable pub shifted : ℕ → ℕ → ℕ
shifted x k = unsigned (shr_z (signed x) (2 ^ k))

-- "a is below b, both as two's complement"
unfoldable pub less : ℕ → ℕ → Bool
less x y = lt_z (signed x) (signed y)

abbrev pub reg : List ℕ → ℕ → ℕ
reg r i = get_or r i 0

-- a body's registers at its first instruction, with x as its data: "Registers become 0, except that register 0 gets an event's data"
abbrev pub first_registers : ℕ → List ℕ
first_registers x = x ∷ replicate 7 0

-- an instruction at place j, on registers r
unfoldable pub effect : Instruction → List ℕ → ℕ → Effect
effect (Instruction.Set a k) r j = Effect.Compute a k
effect (Instruction.Move a b) r j = Effect.Compute a (reg r b)
effect (Instruction.Add a b) r j = Effect.Compute a ((reg r a + reg r b) % 65536)
effect (Instruction.Sub a b) r j = Effect.Compute a ((reg r a + (65536 - reg r b)) % 65536)
effect (Instruction.And a b) r j = Effect.Compute a (bit_and (reg r a) (reg r b))
effect (Instruction.Or a b) r j = Effect.Compute a (bit_or (reg r a) (reg r b))
effect (Instruction.Xor a b) r j = Effect.Compute a (bit_xor (reg r a) (reg r b))
effect (Instruction.Shift a k) r j = Effect.Compute a (shifted (reg r a) k)
effect (Instruction.Load a k) r j = Effect.Load a k
effect (Instruction.Save a k) r j = Effect.Save k (reg r a)
effect (Instruction.LoadX a b k) r j = Effect.Load a (k + reg r b)
effect (Instruction.SaveX a b k) r j = Effect.Save (k + reg r b) (reg r a)
effect (Instruction.Jump k) r j = Effect.Jump k
effect (Instruction.JumpZero a k) r j = Effect.Jump (pick (eqb (reg r a) 0) k (j + 1))
effect (Instruction.JumpLess a b k) r j = Effect.Jump (pick (less (reg r a) (reg r b)) k (j + 1))
effect (Instruction.Go k) r j = Effect.EndTask k
effect Instruction.Done r j = Effect.EndEvent
effect Instruction.Unknown r j = Effect.Unknown

-- instruction j of body i, on registers r
unfoldable pub effect_at : List ℕ → ℕ → ℕ → List ℕ → Effect
effect_at p i j r =
    let w = code p i j in
    effect (decode (opcode w) (field_a w) (field_b w) (operand p i j)) r j

-- "The new open number is the ended task's if that isn't 0 and the next task has the same; otherwise 0." The ended task's
-- number is x, the next's y; where x is 0, so is the result.
unfoldable pub new_open : ℕ → ℕ → ℕ
new_open x y = pick (eqb x y) x 0
