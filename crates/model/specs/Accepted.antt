-- What an accepted check gives, check by check: contracts cite these for every index and every sum, proofs for what they rest on.
-- From an accepted check to its record lead the laws of proofs/ProgramLaws.antt (the program) and of proofs/Passed.antt (the rest).
-- What is said of control words is said of the words singly, so that a proof of it stands as it is after a store to another word.
use Rattle.std.specs.Prelude.{ℕ, ◌+◌, ◌-◌, ◌*◌, ◌≤◌, ◌<◌, true, List, [], ◌∷◌, ◌⊎◌, ◌≢◌, ◌≡◌, length}
use Rattle.model.specs.Burst.{carried}
use Rattle.model.specs.Check.{contents_rule, rows_inside_rule, row_usable, instruction_rule, check}
use Rattle.model.specs.Device.{record_stores, last_stores, kind_of, end_stores, zeros, look, head_sound, named_row, open_sound, head_is, place_fits}
use Rattle.model.specs.Program.{word, tasks, events, memory_words, entry, total, bodies, start, instructions, bodies_start, opcode, field_a, field_b, code, operand, decode, effect_at, body_number}
use Rattle.model.specs.Store.{Store, view, memory_at, log_at, queue_at, store_length, slot_after, distance}
use Rattle.model.specs.Types.{Body, Device, Dropping, Effect, Free, Half, Handler, Instruction, Ok, Place, Record, Replacing, Resting, Run, Storing}

-- ---- the program's contents: `contents_rule`

pub record Contents (p : List ℕ) : Type 0 where
  pub six : 6 ≤ length p
  pub length_is : length p ≡ total p
  pub some_task : 1 ≤ tasks p
  pub most_tasks : tasks p ≤ 32
  pub most_events : events p ≤ 16
  pub some_memory : 1 ≤ memory_words p
  pub most_memory : memory_words p ≤ 1024
  pub entry_is : entry p < tasks p

-- ---- the rows: `rows_inside_rule`, `row_usable` and `rows`

-- the words of the rows are there
pub record RowsInside (p : List ℕ) : Type 0 where
  pub contents : Contents p
  pub inside : bodies_start p ≤ length p

pub record HasRow (p : List ℕ) (i : ℕ) : Type 0 where
  pub rows : RowsInside p
  pub body : i < bodies p

pub record UsableRow (p : List ℕ) (i : ℕ) : Type 0 where
  pub some_instruction : 1 ≤ instructions p i
  pub most_instructions : instructions p i ≤ 256
  pub behind : bodies_start p ≤ start p i
  pub inside : start p i + 2 * instructions p i ≤ total p

-- the words of body i are there, behind the rows
pub record HasBody (p : List ℕ) (i : ℕ) : Type 0 where
  pub row : HasRow p i
  pub usable : UsableRow p i

pub record HasInstruction (p : List ℕ) (i j : ℕ) : Type 0 where
  pub body : HasBody p i
  pub place : j < instructions p i

pub record Bodies (p : List ℕ) : Type 0 where
  pub rows : RowsInside p
  pub body : (i : ℕ) → i < bodies p → HasBody p i

-- ---- an instruction: `instruction_rule`

-- instruction j of body i
abbrev pub body_instruction : List ℕ → ℕ → ℕ → Instruction
body_instruction p i j = decode (opcode (code p i j)) (field_a (code p i j)) (field_b (code p i j)) (operand p i j)

-- the registers that an instruction names, and SHR's k
abbrev pub Registers : Instruction → Type 0
Registers (Instruction.Set a k) = a < 8
Registers (Instruction.Move a b) = (a < 8) × (b < 8)
Registers (Instruction.Add a b) = (a < 8) × (b < 8)
Registers (Instruction.Sub a b) = (a < 8) × (b < 8)
Registers (Instruction.And a b) = (a < 8) × (b < 8)
Registers (Instruction.Or a b) = (a < 8) × (b < 8)
Registers (Instruction.Xor a b) = (a < 8) × (b < 8)
Registers (Instruction.Shift a k) = (a < 8) × (k < 16)
Registers (Instruction.Load a k) = a < 8
Registers (Instruction.Save a k) = a < 8
Registers (Instruction.LoadX a b k) = (a < 8) × (b < 8)
Registers (Instruction.SaveX a b k) = (a < 8) × (b < 8)
Registers (Instruction.Jump k) = Unit {0}
Registers (Instruction.JumpZero a k) = a < 8
Registers (Instruction.JumpLess a b k) = (a < 8) × (b < 8)
Registers (Instruction.Go k) = Unit {0}
Registers Instruction.Done = Unit {0}
Registers Instruction.Unknown = Unit {0}

-- What instruction j of body i does: a register that is there becomes a value; it leads to an instruction of the body, to a task, or to
-- the end of the body's own kind.
abbrev pub LegalEffect : List ℕ → ℕ → ℕ → Effect → Type 0
LegalEffect p i j (Effect.Compute a x) = (a < 8) × (j + 1 < instructions p i)
LegalEffect p i j (Effect.Jump k) = k < instructions p i
LegalEffect p i j (Effect.Load a y) = (a < 8) × (j + 1 < instructions p i)
LegalEffect p i j (Effect.Save y x) = j + 1 < instructions p i
LegalEffect p i j (Effect.EndTask k) = (k < tasks p) × (i < tasks p)
LegalEffect p i j Effect.EndEvent = tasks p ≤ i
LegalEffect p i j Effect.Unknown = ⊥

pub record Legal (p : List ℕ) (i j : ℕ) : Type 0 where
  pub registers : Registers (body_instruction p i j)
  pub effect : (r : List ℕ) → LegalEffect p i j (effect_at p i j r)

-- ---- the whole program: `check`. What a step asks of it again is accepted.

pub record Sound (p : List ℕ) : Type 0 where
  pub passed : check p ≡ Ok tt
  pub head : contents_rule p ≡ Ok tt
  pub inside : rows_inside_rule p ≡ Ok tt
  pub rows : RowsInside p
  pub row : (i : ℕ) → i < bodies p → row_usable p i ≡ Ok tt
  pub some_instruction : (i : ℕ) → i < bodies p → 0 < instructions p i
  pub rule : (i j : ℕ) → i < bodies p → j < instructions p i → instruction_rule p i j ≡ Ok tt
  pub legal : (i j : ℕ) (r : List ℕ) → i < bodies p → j < instructions p i → LegalEffect p i j (effect_at p i j r)

-- ---- 6, the store's contents: `store_rule`

-- "log pairs L (1 to 64), queue records Q (1 to 32)"
pub record Sizes (l q : ℕ) : Type 0 where
  pub some_pairs : 1 ≤ l
  pub most_pairs : l ≤ 64
  pub some_records : 1 ≤ q
  pub most_records : q ≤ 32

-- the contents say where the parts start, and the parts fill the store
pub record Shaped (s : List ℕ) : Type 0 where
  pub most_memory : word s 1 ≤ 1024
  pub sizes : Sizes (word s 2) (word s 3)
  pub memory_start : word s 5 ≡ memory_at
  pub log_start : word s 6 ≡ log_at (word s 1)
  pub queue_start : word s 7 ≡ queue_at (word s 1) (word s 2)
  pub length_is : length s ≡ store_length (word s 1) (word s 2) (word s 3)

-- a store for program p
pub record ShapedFor (p s : List ℕ) : Type 0 where
  pub shaped : Shaped s
  pub memory : word s 1 ≡ memory_words p

-- ---- 7, early: `early_rules`

pub record ControlledBy (p : List ℕ) (l q phase task open' n pending h t g : ℕ) : Type 0 where
  pub phase_in : phase ≤ 2
  pub task_in : task < tasks p
  pub head_in : h ≤ q
  pub tail_in : t ≤ q
  pub count_in : phase ≢ 0 → n ≤ l
  pub pending_task : phase ≡ 1 → pending < tasks p
  pub pending_head : phase ≡ 2 → pending ≤ q
  pub pending_is : phase ≡ 2 → (pending ≡ h) ⊎ ((pending ≡ slot_after q h) × (h ≢ t))
  pub open_none : phase ≡ 2 → open' ≡ 0
  pub begun_in : g ≤ 2
  pub begun_event : phase ≡ 0 → g ≡ 2 → (h ≢ t) × (open' ≡ 0)

abbrev pub Controlled : List ℕ → Store → Type 0
Controlled p v =
    ControlledBy p v.log_pairs v.queue_records v.phase v.task v.open_number v.count v.pending v.head v.tail v.begun

-- ---- what a boot checks of the store: `boot_check`

pub record Bootable (p s : List ℕ) : Type 0 where
  pub shaped : ShapedFor p s
  pub head_in : word s 14 ≤ word s 3

-- ---- 25, early: `may_run`, `place_sound` and `handler_sound`

abbrev pub EligibleBy : List ℕ → ℕ → ℕ → ℕ → ℕ → Body → Type 0
EligibleBy p task open' h t (Body.Task k) = k ≡ task
EligibleBy p task open' h t (Body.Event e) = (e < events p) × (open' ≡ 0) × (h ≢ t)

abbrev pub MayRunBy : List ℕ → ℕ → ℕ → ℕ → ℕ → ℕ → Body → Type 0
MayRunBy p task open' h t g b = EligibleBy p task open' h t b × (g ≡ kind_of b)

abbrev pub MayRun : List ℕ → Store → Body → Type 0
MayRun p v b = MayRunBy p v.task v.open_number v.head v.tail v.begun b

-- with n pairs to copy and so many last stores behind them, and with the device's log count
abbrev pub StandsBy : List ℕ → ℕ → ℕ → ℕ → ℕ → ℕ → ℕ → ℕ → ℕ → ℕ → ℕ → Place → Type 0
StandsBy p l phase task open' n h t g last count (Free c) = (phase ≡ 0 → (c ≡ 0) × (g ≡ 0)) × (phase ≢ 0 → c < n + last)
StandsBy p l phase task open' n h t g last count (Run b j c) = (phase ≡ 0) × MayRunBy p task open' h t g b × (c < end_stores b)
StandsBy p l phase task open' n h t g last count (Half b j) = (phase ≡ 0) × MayRunBy p task open' h t g b × (count < l)

abbrev pub Stands : List ℕ → Store → ℕ → Place → Type 0
Stands p v count x =
    StandsBy p v.log_pairs v.phase v.task v.open_number v.count v.head v.tail v.begun (length (last_stores v)) count x

-- every event is below E
abbrev pub Known : List ℕ → List Record → Type 0
Known p [] = Unit {0}
Known p (first ∷ rs) = (first.event < events p) × Known p rs

-- a handler at work on the records rs, c of whose stores are made
pub record AttendsTo (p : List ℕ) (q h t c : ℕ) (rs : List Record) : Type 0 where
  pub least : 1 ≤ length rs
  pub most : length rs ≤ 4
  pub known : Known p rs
  pub room : length rs ≤ q - distance q h t
  pub inside : c < length (record_stores q t rs)

-- one about to drop the record at head of a full queue, for the records rs
pub record MayDrop (p : List ℕ) (q phase h t g : ℕ) (rs : List Record) : Type 0 where
  pub known : Known p rs
  pub full : slot_after q t ≡ h
  pub event_not_begun : g ≢ 2
  pub not_committing : phase ≢ 2

abbrev pub AttendsBy : List ℕ → ℕ → ℕ → ℕ → ℕ → ℕ → List ℕ → Handler → Type 0
AttendsBy p q phase h t g burst Resting = zeros burst 8 ≡ true
AttendsBy p q phase h t g burst (Storing n c) = AttendsTo p q h t c (carried burst n)
AttendsBy p q phase h t g burst Dropping = MayDrop p q phase h t g (carried burst 1)
AttendsBy p q phase h t g burst (Replacing c) = AttendsTo p q h t c (carried burst 1)

abbrev pub Attends : List ℕ → Store → List ℕ → Handler → Type 0
Attends p v burst handler = AttendsBy p v.queue_records v.phase v.head v.tail v.begun burst handler

-- ---- what step and post look at: `look`

pub record Looked (p s : List ℕ) (d : Device) : Type 0 where
  pub passed : look p s d ≡ Ok tt
  pub contents : Contents p
  pub shaped : ShapedFor p s
  pub control : Controlled p (view s)
  pub on : d.on ≡ true
  pub count_in : d.count ≤ (view s).log_pairs
  pub place : Stands p (view s) d.count d.place
  pub handler : Attends p (view s) d.burst d.handler

-- ---- body b at a place, whose instruction j does f: `body_sound`

pub record BodyIs (p : List ℕ) (v : Store) (place : Place) (b : Body) (j : ℕ) (f : Effect) : Type 0 where
  pub head_record : head_sound p v b ≡ Ok tt
  pub rows_inside : rows_inside_rule p ≡ Ok tt
  pub row : UsableRow p (body_number p b)
  pub there : j < instructions p (body_number p b)
  pub rule : instruction_rule p (body_number p b) j ≡ Ok tt
  pub named : named_row p f ≡ Ok tt
  pub open_number_sound : open_sound p v b ≡ Ok tt
  pub head_record_is : head_is v b ≡ true
  pub fits : place_fits place f ≡ true
