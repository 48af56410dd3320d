-- Document 01, "What a step does" and "Order": the device, what a call looks at, and what boot, cut, post and step do, for all
-- words and all device states. A call's outcome is at most one store, a device state and an answer.
use Rattle.std.specs.Prelude.{ℕ, zero, suc, ◌+◌, ◌-◌, ◌*◌, Bool, true, false, not, List, [], ◌∷◌, ltb, leb, eqb, length, get_or, set, replicate}
use Rattle.model.specs.Burst.{is_burst, carried, no_burst, burst_words, known_events, events_rule}
use Rattle.model.specs.Check.{contents_rule, rows_inside_rule, row_usable, instruction_rule, check}
use Rattle.model.specs.Control.{obey, obey_all, open_rule, rules, early_rules}
use Rattle.model.specs.Program.{events, memory_words, instructions, transaction, body_number, effect_at, new_open, first_registers, word, reg}
use Rattle.model.specs.Store.{Store, view, address, value, event, datum, Phase, Task, Open, Count, Pending, PendingOpen, Head, Tail, Begun, Memory, Address, Value, Event, Datum, Write, none, to, find, slot_after, empty, full, room, log_at, queue_at, store_rule, slot}
use Rattle.model.specs.Test.{pick, ◌and◌, ◌or◌, must, ◌then◌}
use Rattle.model.specs.Types.{Answer, Body, Checked, Device, Dropping, Effect, Err, Free, Half, Handler, None, Ok, Option, Place, Record, Refusal, Replacing, Resting, Run, Some, Storing}

-- ---- "Off is one fixed value of the device, all else 0. Boot makes no store and turns that value on."

unfoldable pub fresh : Bool → Device
fresh on = record { on = on; registers = replicate 8 0; place = Free 0; count = 0; handler = Resting; burst = no_burst }

abbrev pub off : Device
off = fresh false

abbrev pub turned_on : Device
turned_on = fresh true

-- another place, other registers and another log count; another handler with its burst
unfoldable pub with_place : Device → List ℕ → Place → ℕ → Device
with_place d r place n = record { on = d.on; registers = r; place = place; count = n; handler = d.handler; burst = d.burst }

unfoldable pub with_handler : Device → Handler → List ℕ → Device
with_handler d handler burst = record { on = d.on; registers = d.registers; place = d.place; count = d.count; handler = handler; burst = burst }

abbrev pub resting : Device → Device
resting d = with_handler d Resting no_burst

-- ---- The outcome of a call. "A refusal .. changes no word, state or total."

pub record Outcome : Type 0 where
  pub write : Write
  pub device : Device
  pub answer : Answer

abbrev pub out : Write → Device → Answer → Outcome
out w d answer = record { write = w; device = d; answer = answer }

abbrev pub refuse : Device → Refusal → Outcome
refuse d why = out none d (Answer.Refused why)

unfoldable pub judged : Checked → Device → Outcome → Outcome
judged (Ok _) d o = o
judged (Err why) d o = refuse d why

-- Store number c of a row of stores, after which the device is d. The last of them has its own device and answer.
unfoldable pub storing : List Write → ℕ → Device → Device → Answer → Outcome
storing ws c d ended answer =
    let last = eqb (c + 1) (length ws) in
    out (get_or ws c none) (pick last ended d) (pick last answer Answer.Stored)

-- ---- The rows of stores that a commit makes
-- "11 is n, 12 the next task, 13 the new open number, 8 becomes 1 (the commit store)"; n is the log count
unfoldable pub task_stores : List ℕ → ℕ → ℕ → ℕ → List Write
task_stores p t k n = to Count n ∷ to Pending k ∷ to PendingOpen (new_open (transaction p t) (transaction p k)) ∷ to Phase 1 ∷ []

-- "DONE: 11, 12 with the slot after head, 8 becomes 2"
unfoldable pub event_stores : Store → ℕ → List Write
event_stores v n = to Count n ∷ to Pending (slot_after v.queue_records v.head) ∷ to Phase 2 ∷ []

-- "then n copies, 9 from 12, 10 from 13, 8 becomes 0": the stores after the copies. N4: "Commits store 0 in it just before the last store"
unfoldable pub task_last_stores : Store → List Write
task_last_stores v = to Task v.pending ∷ to Open v.pending_open ∷ to Begun 0 ∷ to Phase 0 ∷ []

-- "n copies, 14 from 12, 8 becomes 0"
unfoldable pub event_last_stores : Store → List Write
event_last_stores v = to Head v.pending ∷ to Begun 0 ∷ to Phase 0 ∷ []

unfoldable pub last_stores : Store → List Write
last_stores v = pick (eqb v.phase 1) (task_last_stores v) (event_last_stores v)

-- ---- The row of stores that a handler makes: "event, data, then tail"; N6: "each event and then its data, and then accepted by one tail
-- store, in order". Each record has its slot, from slot u on.

unfoldable pub record_stores : ℕ → ℕ → List Record → List Write
record_stores q u [] = to Tail u ∷ []
record_stores q u (first ∷ rs) = to (Event u) first.event ∷ to (Datum u) first.datum ∷ record_stores q (slot_after q u) rs

abbrev pub handler_stores : Store → List Record → List Write
handler_stores v rs = record_stores v.queue_records v.tail rs

-- ---- N4: "word 16: 0 nothing begun, 1 task, 2 event"

unfoldable pub kind_of : Body → ℕ
kind_of (Body.Task t) = 1
kind_of (Body.Event e) = 2

-- the current task, and the event of the record at head
abbrev pub current_task : Store → Body
current_task v = Body.Task v.task

abbrev pub oldest_event : Store → Body
oldest_event v = Body.Event (event v v.head)

-- the body that is begun, in phase 0; in phases 1 and 2 it is committed
unfoldable pub begun_of : Store → Option Body
begun_of v =
    pick (eqb v.phase 0)
    (pick (eqb v.begun 1) (Some (current_task v)) (pick (eqb v.begun 2) (Some (oldest_event v)) None)) None

-- "Registers become 0, except that register 0 gets an event's data. The log count becomes 0." N4: "at its first instruction, registers as
-- at choosing"
unfoldable pub data_for : Store → Body → ℕ
data_for v (Body.Task t) = 0
data_for v (Body.Event e) = datum v v.head

unfoldable pub started : Store → Device → Body → Device
started v d b = with_place d (first_registers (data_for v b)) (Run b 0 0) 0

-- ---- 25, what needs no row, instruction, log pair or record

-- "in phase 0 a running body that isn't word 9's task, nor the event of a record at head with word 10 at 0"; "body .. out of
-- range"
unfoldable pub eligible : List ℕ → Store → Body → Bool
eligible p v (Body.Task t) = eqb t v.task
eligible p v (Body.Event e) = ltb e (events p) and eqb v.open_number 0 and not (empty v)

-- N4: "In phase 0, 25 also meets a device that is on and doesn't run just what word 16 says"
unfoldable pub may_run : List ℕ → Store → Body → Bool
may_run p v b = eligible p v b and eqb v.begun (kind_of b)

-- how many stores GO makes up to the commit store, and DONE
unfoldable pub end_stores : Body → ℕ
end_stores (Body.Task t) = 4
end_stores (Body.Event e) = 3

-- "log count above L; commit place past its last store, or phase disagreeing; a body running in phase 1 or 2; a commit begun in
-- phase 0 without a body ..; half a SAVE .. with L pairs"
unfoldable pub place_sound : List ℕ → Store → ℕ → Place → Bool
place_sound p v n (Free c) = pick (eqb v.phase 0) (eqb c 0 and eqb v.begun 0) (ltb c (v.count + length (last_stores v)))
place_sound p v n (Run b j c) = eqb v.phase 0 and may_run p v b and ltb c (end_stores b)
place_sound p v n (Half b j) = eqb v.phase 0 and may_run p v b and ltb n v.log_pairs

-- n records fit behind tail
unfoldable pub fits : Store → ℕ → Bool
fits v n = leb n (room v)

-- N6: "25 meets a handler whose burst doesn't fit, is past its tail store or has a length or an event out of range", c of whose stores are made
unfoldable pub records_sound : List ℕ → Store → ℕ → List Record → Bool
records_sound p v c rs = is_burst rs and known_events p rs and fits v (length rs) and ltb c (length (handler_stores v rs))

-- the first n words are 0
unfoldable pub zeros : List ℕ → ℕ → Bool
zeros ws zero = true
zeros ws (suc n) = zeros ws n and eqb (reg ws n) 0

-- N7: "Of a handler about to drop, 25 asks instead of room a full queue .. and neither word 16 nor the phase at 2"
unfoldable pub may_drop : Store → Bool
may_drop v = full v and not (eqb v.begun 2) and not (eqb v.phase 2)

-- one at rest has no burst; one that drops has a burst of one
unfoldable pub handler_sound : List ℕ → Store → List ℕ → Handler → Bool
handler_sound p v burst Resting = zeros burst 8
handler_sound p v burst (Storing n c) = records_sound p v c (carried burst n)
handler_sound p v burst Dropping = known_events p (carried burst 1) and may_drop v
handler_sound p v burst (Replacing c) = records_sound p v c (carried burst 1)

unfoldable pub is_at_rest : Handler → Bool
is_at_rest Resting = true
is_at_rest (Storing n c) = false
is_at_rest Dropping = false
is_at_rest (Replacing c) = false

unfoldable pub is_fresh : Place → Handler → Bool
is_fresh (Free c) handler = eqb c 0 and is_at_rest handler
is_fresh (Run b j c) handler = false
is_fresh (Half b j) handler = false

-- "off unlike its fixed value"
unfoldable pub device_sound : List ℕ → Store → Device → Bool
device_sound p v d =
    pick d.on (leb d.count v.log_pairs and place_sound p v d.count d.place and handler_sound p v d.burst d.handler)
    (zeros d.registers 8 and eqb d.count 0 and is_fresh d.place d.handler and zeros d.burst 8)

-- "Step and post look at program words 0 to 5, store contents and words 8 to 15: 1, 2, 3, 6, 7, 25, 22, without the parts of 7
-- and 25 that need a row, an instruction, a log pair or a record"; N4: "look at word 16 too"
unfoldable pub look : List ℕ → List ℕ → Device → Checked
look p s d =
    contents_rule p
    then store_rule p s
    then obey_all (early_rules p (view s))
    then must (device_sound p (view s) d) Refusal.State
    then must d.on Refusal.PowerOff

-- ---- Boot, cut and post, which carries a burst. N6: "A single post is a burst of one."

-- "boot 1 to 7, 26"
unfoldable pub boot_check : List ℕ → List ℕ → Device → Checked
boot_check p s d = check p then store_rule p s then obey_all (rules p (view s)) then must (not d.on) Refusal.PowerOn

-- "Boot .. turns that value on"; N4: "a boot in phase 0 takes up the begun body at its first instruction, registers as at choosing"
unfoldable pub taken_up : Store → Option Body → Device
taken_up v None = turned_on
taken_up v (Some b) = started v turned_on b

unfoldable pub boot : List ℕ → List ℕ → Device → Outcome
boot p s d = judged (boot_check p s d) d (out none (taken_up (view s) (begun_of (view s))) Answer.Done)

-- "A cut refuses nothing."
unfoldable pub cut : Outcome
cut = out none off Answer.Done

-- N6: "21 when the whole burst doesn't fit"; N7: "A single post to a full queue now drops the record at head .., unless word 16 or the phase
-- is 2; then it is 21"
unfoldable pub takes : Store → ℕ → Bool
takes v n = fits v n or (eqb n 1 and may_drop v)

-- "post then 8, 20, 21"; N6: "33 burst of zero or over four, checked just before 8"
unfoldable pub post_check : List ℕ → List ℕ → Device → List Record → Checked
post_check p s d rs =
    look p s d
    then must (is_burst rs) Refusal.BurstLength
    then events_rule p 0 rs
    then must (is_at_rest d.handler) Refusal.HandlerBusy
    then must (takes (view s) (length rs)) Refusal.QueueFull

-- the handler that a post of n records sets to work: where they don't fit, one that drops
unfoldable pub set_to_work : Store → ℕ → Handler
set_to_work v n = pick (fits v n) (Storing n 0) Dropping

-- "A post makes no store, sets the handler to work": on the records that it carries
unfoldable pub post : List ℕ → List ℕ → Device → List Record → Outcome
post p s d rs = judged (post_check p s d rs) d (out none (with_handler d (set_to_work (view s) (length rs)) (burst_words rs)) Answer.Done)

-- ---- The record at head: a step that uses it checks it, "a chosen record (7)"

unfoldable pub record_sound : List ℕ → Store → Checked
record_sound p v =
    must (ltb (event v v.head) (events p)) (Refusal.Control (queue_at (memory_words p) v.log_pairs + 2 * v.head))

-- ---- Step 1. "A handler at work makes its next store .. The tail store accepts the event": of its n records' stores c are made

-- the records of a handler at work
unfoldable pub burst_length : Handler → ℕ
burst_length Resting = 0
burst_length (Storing n c) = n
burst_length Dropping = 1
burst_length (Replacing c) = 1

abbrev pub handled : Device → List Record
handled d = carried d.burst (burst_length d.handler)

-- the handler that is left after a store that isn't the last, and what was dropped for the burst
unfoldable pub handler_step : Store → Device → ℕ → ℕ → Handler → Option Record → Outcome
handler_step v d n c later dropped =
    storing (handler_stores v (carried d.burst n)) c (with_handler d later d.burst) (resting d) (Answer.Accepted dropped)

-- N7: "drops the record at head by storing head first"
unfoldable pub drop_step : List ℕ → Store → Device → Outcome
drop_step p v d =
    judged (record_sound p v) d
    (out (to Head (slot_after v.queue_records v.head)) (with_handler d (Replacing 0) d.burst) Answer.Stored)

-- "The accepting answer gains the dropped record": the ring was full, so its slot is the one after tail, and stays as it was until tail is stored
unfoldable pub dropped_record : Store → Option Record
dropped_record v = Some (slot v.queue (slot_after v.queue_records v.tail))

-- ---- Step 2. "A commit makes its next store", in phases 1 and 2: c stores are made after the commit store

-- "the rest of 7 .. for .. a log pair"
unfoldable pub pair_sound : List ℕ → Store → ℕ → Checked
pair_sound p v i = must (ltb (address v i) (memory_words p)) (Refusal.Control (log_at (memory_words p) + 2 * i))

unfoldable pub copy_step : List ℕ → Store → Device → ℕ → Outcome
copy_step p v d c =
    let later = with_place d d.registers (Free (c + 1)) d.count in
    pick (ltb c v.count) (judged (pair_sound p v c) d (out (to (Memory (address v c)) (value v c)) later Answer.Stored))
    (storing (last_stores v) (c - v.count) later turned_on Answer.Stored)

-- ---- Step 3. "With no body running, one is chosen"

-- "if word 10 is 0 and the queue isn't empty, the event at head"
unfoldable pub event_next : Store → Bool
event_next v = eqb v.open_number 0 and not (empty v)

-- N4: "Choosing stores it and still answers chosen"
unfoldable pub choosing : Store → Device → Body → Outcome
choosing v d b = out (to Begun (kind_of b)) (started v d b) (Answer.Chosen b)

-- "otherwise the current task"
unfoldable pub choose_step : List ℕ → Store → Device → Outcome
choose_step p v d = pick (event_next v) (judged (record_sound p v) d (choosing v d (oldest_event v))) (choosing v d (current_task v))

-- ---- Step 4. "One instruction runs."

-- The rules that are left for a body at instruction j, with what its instruction does: "a chosen record (7), the body's row (4
-- ..), the instruction (5), at GO task k's row (4), the rest of 7, then of 25, for these"
unfoldable pub head_sound : List ℕ → Store → Body → Checked
head_sound p v (Body.Task t) = Ok tt
head_sound p v (Body.Event e) = record_sound p v

unfoldable pub named_row : List ℕ → Effect → Checked
named_row p (Effect.Compute a x) = Ok tt
named_row p (Effect.Jump k) = Ok tt
named_row p (Effect.Load a y) = Ok tt
named_row p (Effect.Save y x) = Ok tt
named_row p (Effect.EndTask k) = row_usable p k
named_row p Effect.EndEvent = Ok tt
named_row p Effect.Unknown = Ok tt

unfoldable pub open_sound : List ℕ → Store → Body → Checked
open_sound p v (Body.Task t) = obey (open_rule p v)
open_sound p v (Body.Event e) = Ok tt

-- the event of the record at head
unfoldable pub head_is : Store → Body → Bool
head_is v (Body.Task t) = true
head_is v (Body.Event e) = eqb (event v v.head) e

unfoldable pub ends : Effect → Bool
ends (Effect.Compute a x) = false
ends (Effect.Jump k) = false
ends (Effect.Load a y) = false
ends (Effect.Save y x) = false
ends (Effect.EndTask k) = true
ends Effect.EndEvent = true
ends Effect.Unknown = false

unfoldable pub saves : Effect → Bool
saves (Effect.Compute a x) = false
saves (Effect.Jump k) = false
saves (Effect.Load a y) = false
saves (Effect.Save y x) = true
saves (Effect.EndTask k) = false
saves Effect.EndEvent = false
saves Effect.Unknown = false

-- "a commit begun in phase 0 without a body at GO or DONE; half a SAVE without a SAVE"
unfoldable pub place_fits : Place → Effect → Bool
place_fits (Free c) f = true
place_fits (Run b j c) f = pick (eqb c 0) true (ends f)
place_fits (Half b j) f = saves f

unfoldable pub body_sound : List ℕ → Store → Place → Body → ℕ → Effect → Checked
body_sound p v place b j f =
    let number = body_number p b in
    let there = ltb j (instructions p number) in
    head_sound p v b
    then rows_inside_rule p
    then row_usable p number
    then pick there (instruction_rule p number j then named_row p f) (Ok tt)
    then open_sound p v b
    then must (there and head_is v b and place_fits place f) Refusal.State

-- what address y shows: "LOAD takes the log's value for that address, if it has one, else memory's"
unfoldable pub shown : Store → Option ℕ → ℕ → ℕ
shown v (Some i) y = value v i
shown v None y = word v.memory y

-- "SAVE to an address in the log overwrites its value in one step; otherwise one step stores the address and the next .. the
-- value." "24: SAVE to an address not in the log, with L pairs there."
unfoldable pub save_step : Store → Device → Body → ℕ → ℕ → ℕ → Option ℕ → Outcome
save_step v d b j y x (Some i) = out (to (Value i) x) (with_place d d.registers (Run b (j + 1) 0) d.count) Answer.Stored
save_step v d b j y x None =
    pick (ltb d.count v.log_pairs) (out (to (Address d.count) y) (with_place d d.registers (Half b j) d.count) Answer.Stored)
    (refuse d Refusal.LogFull)

-- body b at instruction j, c stores of its end made. "23: address k + b not below M."
unfoldable pub act : List ℕ → Store → Device → Body → ℕ → ℕ → Effect → Outcome
act p v d b j c (Effect.Compute a x) = out none (with_place d (set d.registers a x) (Run b (j + 1) 0) d.count) Answer.Worked
act p v d b j c (Effect.Jump k) = out none (with_place d d.registers (Run b k 0) d.count) Answer.Worked
act p v d b j c (Effect.Load a y) =
    pick (ltb y (memory_words p))
    (out none (with_place d (set d.registers a (shown v (find v.log d.count y) y)) (Run b (j + 1) 0) d.count) Answer.Worked)
    (refuse d Refusal.Address)
act p v d b j c (Effect.Save y x) =
    pick (ltb y (memory_words p)) (save_step v d b j y x (find v.log d.count y)) (refuse d Refusal.Address)
act p v d b j c (Effect.EndTask k) =
    storing (task_stores p (body_number p b) k d.count) c (with_place d d.registers (Run b j (c + 1)) d.count) turned_on (Answer.Committed b)
act p v d b j c Effect.EndEvent =
    storing (event_stores v d.count) c (with_place d d.registers (Run b j (c + 1)) d.count) turned_on (Answer.Committed b)
act p v d b j c Effect.Unknown = refuse d Refusal.State

-- the value of half a SAVE, "without looking again at address or log"
unfoldable pub save_rest : Device → Body → ℕ → Effect → Outcome
save_rest d b j (Effect.Compute a x) = refuse d Refusal.State
save_rest d b j (Effect.Jump k) = refuse d Refusal.State
save_rest d b j (Effect.Load a y) = refuse d Refusal.State
save_rest d b j (Effect.Save y x) = out (to (Value d.count) x) (with_place d d.registers (Run b (j + 1) 0) (d.count + 1)) Answer.Stored
save_rest d b j (Effect.EndTask k) = refuse d Refusal.State
save_rest d b j Effect.EndEvent = refuse d Refusal.State
save_rest d b j Effect.Unknown = refuse d Refusal.State

-- ---- "First that applies"

unfoldable pub place_step : List ℕ → Store → Device → Place → Outcome
place_step p v d (Free c) = pick (eqb v.phase 0) (choose_step p v d) (copy_step p v d c)
place_step p v d (Run b j c) =
    let f = effect_at p (body_number p b) j d.registers in
    judged (body_sound p v (Run b j c) b j f) d (act p v d b j c f)
place_step p v d (Half b j) =
    let f = effect_at p (body_number p b) j d.registers in
    judged (body_sound p v (Half b j) b j f) d (save_rest d b j f)

unfoldable pub next_step : List ℕ → Store → Device → Handler → Outcome
next_step p v d Resting = place_step p v d d.place
next_step p v d (Storing n c) = handler_step v d n c (Storing n (c + 1)) None
next_step p v d Dropping = drop_step p v d
next_step p v d (Replacing c) = handler_step v d 1 c (Replacing (c + 1)) (dropped_record v)

unfoldable pub step : List ℕ → List ℕ → Device → Outcome
step p s d = judged (look p s d) d (next_step p (view s) d d.handler)
