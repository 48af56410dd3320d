-- What the worked rows speak of: tables of rows, a sample program, a store for it, devices. A row is `computed ⇒ expected`. ProgramRows, StateRows and
-- CallRows have the tables, Rows gathers them.
use Rattle.std.specs.Prelude.{ℕ, ◌≡◌, Bool, true, false, List, [], ◌∷◌, ◌++◌, map, set, take}
use Rattle.model.specs.Types.{Answer, Body, Device, Free, Half, Handler, None, Place, Resting, Run, Storing}

-- ---- Tables

infix 68 ◌⇒◌
pub data Row (B : Type 0) : Type 0 where
  ◌⇒◌ : B → B → Row B

unfoldable pub computed : {B : Type 0} → Row B → B
computed (x ⇒ y) = x

unfoldable pub expected : {B : Type 0} → Row B → B
expected (x ⇒ y) = y

abbrev pub Holds : {B : Type 0} → List (Row B) → Type 0
Holds rows = map computed rows ≡ map expected rows

-- ---- The sample program: T 5, E 2, M 6, entry task 1. Tasks 1, 2 and 3 have transaction number 8, task 4 has 9.

unfoldable pub sample : List ℕ
sample =
    0xC0B1 ∷ 5 ∷ 2 ∷ 6 ∷ 1 ∷ 51
    ∷ 27 ∷ 1 ∷ 0  -- words 6 to 8: task 0
    ∷ 29 ∷ 4 ∷ 8  -- words 9 to 11: task 1
    ∷ 37 ∷ 1 ∷ 8  -- words 12 to 14: task 2
    ∷ 39 ∷ 1 ∷ 8  -- words 15 to 17: task 3
    ∷ 41 ∷ 1 ∷ 9  -- words 18 to 20: task 4
    ∷ 43 ∷ 2 ∷ 0  -- words 21 to 23: event 0, which is body 5
    ∷ 47 ∷ 2 ∷ 0  -- words 24 to 26: event 1, which is body 6
    ∷ 0x0F00 ∷ 4  -- word 27, task 0: GO 4
    ∷ 0x0010 ∷ 9 ∷ 0x0910 ∷ 4 ∷ 0x0211 ∷ 0 ∷ 0x0F00 ∷ 2  -- word 29, task 1: SET 1 9, SAVE 1 4, ADD 1 1, GO 2
    ∷ 0x0F00 ∷ 3  -- word 37, task 2: GO 3
    ∷ 0x0F00 ∷ 0  -- word 39, task 3: GO 0
    ∷ 0x0F00 ∷ 1  -- word 41, task 4: GO 1
    ∷ 0x0900 ∷ 0 ∷ 0x1000 ∷ 0  -- word 43, event 0: SAVE 0 0, DONE
    ∷ 0x0900 ∷ 5 ∷ 0x1000 ∷ 0  -- word 47, event 1: SAVE 0 5, DONE
    ∷ []

-- with another instruction 2 of task 1, which was ADD
abbrev pub with_instruction : ℕ → ℕ → List ℕ
with_instruction w k = set (set sample 33 w) 34 k

-- ---- A store for it with L 2 and Q 3, by its control words 8 to 15; word 16 is 0

unfoldable pub controls : (phase task open_number count pending pending_open head tail : ℕ) → List ℕ
controls phase task open_number count pending pending_open head tail =
    0xC0A2 ∷ 6 ∷ 2 ∷ 3 ∷ 8 ∷ 17 ∷ 23 ∷ 27
    ∷ phase ∷ task ∷ open_number ∷ count ∷ pending ∷ pending_open ∷ head ∷ tail ∷ 0
    ∷ 100 ∷ 101 ∷ 102 ∷ 103 ∷ 104 ∷ 105  -- words 17 to 22: memory
    ∷ 2 ∷ 777 ∷ 3 ∷ 888  -- words 23 to 26: the log's pairs 0 and 1
    ∷ 0 ∷ 50 ∷ 1 ∷ 51 ∷ 0 ∷ 52 ∷ 1 ∷ 53  -- words 27 to 34: the ring's slots 0 to 3
    ∷ []

-- phase 0, the records of slots 3 and 0 waiting: with the transaction of task 1 open, and with none
abbrev pub opened : List ℕ
opened = controls 0 1 8 7 7 7 3 1

abbrev pub closed : List ℕ
closed = controls 0 1 0 7 7 7 3 1

-- task 2 is next, in the transaction, with two pairs to copy; the record of slot 3 goes, with one
abbrev pub task_commit : List ℕ
task_commit = controls 1 1 8 2 2 8 3 1

abbrev pub event_commit : List ℕ
event_commit = controls 2 1 0 1 0 0 3 1

-- N4: "word 16: 0 nothing begun, 1 task, 2 event"
abbrev pub task_begun : List ℕ → List ℕ
task_begun s = set s 16 1

abbrev pub event_begun : List ℕ → List ℕ
event_begun s = set s 16 2

-- the store with word 16 as the body at a place has it
abbrev pub body_begun : Body → List ℕ → List ℕ
body_begun (Body.Task t) s = task_begun s
body_begun (Body.Event e) s = event_begun s

abbrev pub begun_at : Place → List ℕ → List ℕ
begun_at (Free c) s = s
begun_at (Run b j c) s = body_begun b s
begun_at (Half b j) s = body_begun b s

-- ---- Devices

abbrev pub cleared : List ℕ
cleared = 0 ∷ 0 ∷ 0 ∷ 0 ∷ 0 ∷ 0 ∷ 0 ∷ 0 ∷ []

abbrev pub device_with : Bool → List ℕ → Place → ℕ → Handler → Device
device_with on r x l h = record { on = on; registers = r; place = x; count = l; handler = h; burst = cleared }

-- "Off is one fixed value of the device, all else 0"; the same turned on
abbrev pub off_value : Device
off_value = device_with false cleared (Free 0) 0 Resting

abbrev pub on_value : Device
on_value = device_with true cleared (Free 0) 0 Resting

-- one that is on, with values in its registers and one pair in the log
abbrev pub registers : List ℕ
registers = 0 ∷ 2 ∷ 5 ∷ 12 ∷ 10 ∷ 0xFFFB ∷ 0x7FFF ∷ 0x8000 ∷ []

abbrev pub at : Place → Device
at x = device_with true registers x 1 Resting

-- the same with two
abbrev pub two_pairs : Place → Device
two_pairs x = device_with true registers x 2 Resting

-- the same as d, but with a handler at work on a burst with the words ws; one of n records, c of whose stores are made
abbrev pub working_as : Handler → Device → List ℕ → Device
working_as h d ws =
    record { on = d.on; registers = d.registers; place = d.place; count = d.count; handler = h; burst = take 8 (ws ++ cleared) }

abbrev pub working : Device → ℕ → ℕ → List ℕ → Device
working d n c ws = working_as (Storing n c) d ws

-- one that accepts, and drops nothing
abbrev pub accepted : Answer
accepted = Answer.Accepted None

-- a body at an instruction
abbrev pub task1 : ℕ → Place
task1 j = Run (Body.Task 1) j 0

abbrev pub event1 : ℕ → Place
event1 j = Run (Body.Event 1) j 0
