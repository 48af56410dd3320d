-- Worked rows of what calls do: single steps, lists of calls, totals, runs, recovery; the numbers of the refusals; the serial run.
use Rattle.std.specs.Prelude.{ℕ, Bool, true, false, List, [], ◌∷◌, ◌++◌, map, replicate, set}
use Rattle.model.specs.Answer.{RefusalNumber, refusal}
use Rattle.model.specs.AllOrNone.{came_in, committed_events, events_of, joined, Gone, was_committed, was_dropped, gone_records, committed_of, dropped_of}
use Rattle.model.specs.Burst.{burst_words, carried, single}
use Rattle.model.specs.Calls.{Call, Boot, Step, Cut, Post, Line, Now, history, after_calls, events_accepted, counted, RunOutcome, run, Recovery, recovered, unfinished, recovery, count_by, steps}
use Rattle.model.specs.Claims.{uncut}
use Rattle.model.specs.Demand3.{is_in, may_meet, recovery_steps, is_completion}
use Rattle.model.specs.Device.{Outcome, out, refuse, begun_of, boot, cut, post, step}
use Rattle.model.specs.Program.{new_open}
use Rattle.model.specs.Serial.{Serial, given, serial, serial_start, with_records}
use Rattle.model.specs.Starred.{counting}
use Rattle.model.specs.Store.{view, room, waiting, Word, Phase, Task, Open, Count, Pending, PendingOpen, Head, Tail, Begun, Memory, Address, Value, Event, Datum, none, to, index, settled, formatted}
use Rattle.model.specs.Turns.{begun_by, next_body}
use Rattle.model.specs.Types.{Answer, Body, Checked, Device, Dropping, Err, Free, Half, Handler, None, Ok, Option, Record, Refusal, Replacing, Resting, Run, Some, Storing, Totals}
use Rattle.model.specs.ProgramRows.{stores_word}
use Rattle.model.specs.Sample.{Row, ◌⇒◌, accepted, at, cleared, closed, controls, device_with, event1, event_begun, event_commit, off_value, on_value, opened, registers, sample, task1, task_begun, task_commit, two_pairs, with_instruction, working, working_as}
use Rattle.model.specs.StateRows.{wrong_open}

-- ---- What a step does: its one store, the device after it, its answer

-- a handler at work for event 1 with data 66, and a body at an instruction
abbrev handling : ℕ → Device
handling c = working (at (task1 2)) 1 c (1 ∷ 66 ∷ [])

-- for three, in a ring that is empty from slot 2 on
abbrev three_handled : ℕ → Device
three_handled c = working (at (task1 2)) 3 c (1 ∷ 66 ∷ 0 ∷ 67 ∷ 1 ∷ 68 ∷ [])

abbrev pub holds : ℕ → ℕ → Record
holds e x = record { event = e; datum = x }

abbrev two : ℕ → ℕ → List Record
two e f = holds e 66 ∷ holds f 67 ∷ []

abbrev three : List Record
three = holds 1 66 ∷ holds 0 67 ∷ holds 1 68 ∷ []

abbrev empty_at2 : List ℕ
empty_at2 = task_begun (controls 0 1 8 0 0 0 2 2)

-- full from slot 2 on, and a handler for the same event that drops the record there, before and after its head store
abbrev full_at2 : List ℕ
full_at2 = task_begun (controls 0 1 8 0 0 0 2 1)

abbrev about_to_drop : Device → Device
about_to_drop d = working_as Dropping d (1 ∷ 66 ∷ [])

abbrev replacing : Device → ℕ → Device
replacing d c = working_as (Replacing c) d (1 ∷ 66 ∷ [])

-- a body begun, by its kind in word 16, register 0 with the data of an event
abbrev begins : Body → ℕ → ℕ → Outcome
begins b n x = out (to Begun n) (device_with true (set cleared 0 x) (Run b 0 0) 0 Resting) (Answer.Chosen b)

-- a boot that takes it up
abbrev takes_up : Body → ℕ → Outcome
takes_up b x = out none (device_with true (set cleared 0 x) (Run b 0 0) 0 Resting) Answer.Done

-- a commit's last store, and a commit store
abbrev ends_with : Word → ℕ → Answer → Outcome
ends_with w x a = out (to w x) on_value a

unfoldable pub outcomes : List (Row Outcome)
outcomes =
    -- "event, data, then tail. The tail store accepts the event": the slot after 3 is 0; a handler precedes a commit
    step sample (task_begun (controls 0 1 8 0 0 0 1 3)) (handling 0) ⇒ out (to (Event 3) 1) (handling 1) Answer.Stored
    ∷ step sample (task_begun (controls 0 1 8 0 0 0 1 3)) (handling 1) ⇒ out (to (Datum 3) 66) (handling 2) Answer.Stored
    ∷ step sample (task_begun (controls 0 1 8 0 0 0 1 3)) (handling 2) ⇒ out (to Tail 0) (at (task1 2)) accepted
    ∷ step sample task_commit (working (at (Free 1)) 1 2 (1 ∷ 66 ∷ [])) ⇒ out (to Tail 2) (at (Free 1)) accepted
    -- N6: "stored, each event and then its data, and then accepted by one tail store, in order", past the ring's end
    ∷ step sample empty_at2 (three_handled 0) ⇒ out (to (Event 2) 1) (three_handled 1) Answer.Stored
    ∷ step sample empty_at2 (three_handled 1) ⇒ out (to (Datum 2) 66) (three_handled 2) Answer.Stored
    ∷ step sample empty_at2 (three_handled 2) ⇒ out (to (Event 3) 0) (three_handled 3) Answer.Stored
    ∷ step sample empty_at2 (three_handled 3) ⇒ out (to (Datum 3) 67) (three_handled 4) Answer.Stored
    ∷ step sample empty_at2 (three_handled 4) ⇒ out (to (Event 0) 1) (three_handled 5) Answer.Stored
    ∷ step sample empty_at2 (three_handled 5) ⇒ out (to (Datum 0) 68) (three_handled 6) Answer.Stored
    ∷ step sample empty_at2 (three_handled 6) ⇒ out (to Tail 1) (at (task1 2)) accepted
    -- N7: "drops the record at head by storing head first": in phases 0 and 1, past the ring's end; then as any burst of one. "The accepting answer
    -- gains the dropped record": that of the slot after tail. The record to be dropped is checked as one chosen is.
    ∷ step sample full_at2 (about_to_drop (at (task1 2))) ⇒ out (to Head 3) (replacing (at (task1 2)) 0) Answer.Stored
    ∷ step sample (controls 0 1 8 0 0 0 3 2) (about_to_drop on_value) ⇒ out (to Head 0) (replacing on_value 0) Answer.Stored
    ∷ step sample (controls 1 1 8 2 2 8 2 1) (about_to_drop (at (Free 1))) ⇒ out (to Head 3) (replacing (at (Free 1)) 0) Answer.Stored
    ∷ step sample (set full_at2 31 2) (about_to_drop (at (task1 2))) ⇒ refuse (about_to_drop (at (task1 2))) (Refusal.Control 31)
    ∷ step sample (set full_at2 29 2) (about_to_drop (at (task1 2))) ⇒ out (to Head 3) (replacing (at (task1 2)) 0) Answer.Stored
    ∷ step sample (set full_at2 14 3) (replacing (at (task1 2)) 0) ⇒ out (to (Event 1) 1) (replacing (at (task1 2)) 1) Answer.Stored
    ∷ step sample (set full_at2 14 3) (replacing (at (task1 2)) 1) ⇒ out (to (Datum 1) 66) (replacing (at (task1 2)) 2) Answer.Stored
    ∷ step sample (set full_at2 14 3) (replacing (at (task1 2)) 2) ⇒ out (to Tail 2) (at (task1 2)) (Answer.Accepted (Some (holds 0 52)))
    ∷ step sample (controls 0 1 8 0 0 0 0 2) (replacing on_value 2) ⇒ out (to Tail 3) on_value (Answer.Accepted (Some (holds 1 53)))
    -- "then n copies, 9 from 12, 10 from 13, 8 becomes 0"; N4: "Commits store 0 in it just before the last store", over a 0 too
    ∷ step sample task_commit (at (Free 0)) ⇒ stores_word (Memory 2) 777 (Free 1)
    ∷ step sample task_commit (at (Free 1)) ⇒ stores_word (Memory 3) 888 (Free 2)
    ∷ step sample task_commit (at (Free 2)) ⇒ stores_word Task 2 (Free 3)
    ∷ step sample task_commit (at (Free 3)) ⇒ stores_word Open 8 (Free 4)
    ∷ step sample task_commit (at (Free 4)) ⇒ stores_word Begun 0 (Free 5)
    ∷ step sample task_commit (at (Free 5)) ⇒ ends_with Phase 0 Answer.Stored
    -- "n copies, 14 from 12, 8 becomes 0"
    ∷ step sample event_commit (at (Free 0)) ⇒ stores_word (Memory 2) 777 (Free 1)
    ∷ step sample event_commit (at (Free 1)) ⇒ stores_word Head 0 (Free 2)
    ∷ step sample event_commit (at (Free 2)) ⇒ stores_word Begun 0 (Free 3)
    ∷ step sample event_commit (at (Free 3)) ⇒ ends_with Phase 0 Answer.Stored
    -- "if word 10 is 0 and the queue isn't empty, the event at head; otherwise the current task"
    ∷ step sample closed (at (Free 0)) ⇒ begins (Body.Event 1) 2 53
    ∷ step sample opened (at (Free 0)) ⇒ begins (Body.Task 1) 1 0
    ∷ step sample (controls 0 4 0 0 0 0 2 2) (at (Free 0)) ⇒ begins (Body.Task 4) 1 0
    -- "the search of the log ends with the pair found": LOAD 3 2, with address 2 in both pairs
    ∷ step (with_instruction 0x0830 2) (task_begun (set opened 25 2)) (two_pairs (task1 2)) ⇒ out none (device_with true (set registers 3 777) (task1 3) 2 Resting) Answer.Worked
    -- the third of three pairs
    ∷ step (with_instruction 0x0830 2) (task_begun (set (set (formatted sample 3 3) 27 2) 28 999)) (device_with true registers (task1 2) 3 Resting)
    ⇒ out none (device_with true (set registers 3 999) (task1 3) 3 Resting) Answer.Worked
    -- "the next, without looking again at address or log, the value": SAVE 1 4, though pair 1 has address 3
    ∷ step sample (task_begun opened) (at (Half (Body.Task 1) 1)) ⇒ out (to (Value 1) 2) (two_pairs (task1 2)) Answer.Stored
    -- GO 2: "11 is n, 12 the next task, 13 the new open number, 8 becomes 1 (the commit store)"
    ∷ step sample (task_begun opened) (at (Run (Body.Task 1) 3 0)) ⇒ stores_word Count 1 (Run (Body.Task 1) 3 1)
    ∷ step sample (task_begun opened) (at (Run (Body.Task 1) 3 1)) ⇒ stores_word Pending 2 (Run (Body.Task 1) 3 2)
    ∷ step sample (task_begun opened) (at (Run (Body.Task 1) 3 2)) ⇒ stores_word PendingOpen 8 (Run (Body.Task 1) 3 3)
    ∷ step sample (task_begun opened) (at (Run (Body.Task 1) 3 3)) ⇒ ends_with Phase 1 (Answer.Committed (Body.Task 1))
    -- "DONE: 11, 12 with the slot after head, 8 becomes 2"
    ∷ step sample (event_begun closed) (at (Run (Body.Event 1) 1 0)) ⇒ stores_word Count 1 (Run (Body.Event 1) 1 1)
    ∷ step sample (event_begun closed) (at (Run (Body.Event 1) 1 1)) ⇒ stores_word Pending 0 (Run (Body.Event 1) 1 2)
    ∷ step sample (event_begun closed) (at (Run (Body.Event 1) 1 2)) ⇒ ends_with Phase 2 (Answer.Committed (Body.Event 1))
    -- "A post makes no store, sets the handler to work": "post then 8, 20, 21"
    ∷ post sample (task_begun opened) (at (task1 2)) (single 1 66) ⇒ out none (handling 0) Answer.Done
    ∷ post sample task_commit (at (Free 1)) (single 0 9) ⇒ out none (working (at (Free 1)) 1 0 (0 ∷ 9 ∷ [])) Answer.Done
    ∷ post sample opened off_value (single 2 66) ⇒ refuse off_value Refusal.PowerOff
    ∷ post sample (task_begun opened) (handling 1) (single 2 66) ⇒ refuse (handling 1) (Refusal.NoEvent 0)
    ∷ post sample (task_begun opened) (handling 1) (single 1 67) ⇒ refuse (handling 1) Refusal.HandlerBusy
    ∷ post sample (task_begun (controls 0 1 8 0 0 0 2 1)) (at (task1 2)) (single 2 66) ⇒ refuse (at (task1 2)) (Refusal.NoEvent 0)
    -- N7: "A single post to a full queue now drops the record at head .., unless word 16 or the phase is 2; then it is 21": with nothing begun, a
    -- task begun, in phase 1; in phase 2 before head has moved and after it, with word 16 at 2 and at 0
    ∷ post sample (controls 0 1 8 0 0 0 2 1) on_value (single 1 66) ⇒ out none (about_to_drop on_value) Answer.Done
    ∷ post sample full_at2 (at (task1 2)) (single 1 66) ⇒ out none (about_to_drop (at (task1 2))) Answer.Done
    ∷ post sample (controls 1 1 8 2 2 8 2 1) (at (Free 1)) (single 1 66) ⇒ out none (about_to_drop (at (Free 1))) Answer.Done
    ∷ post sample (event_begun (controls 1 1 8 2 2 8 2 1)) (at (Free 1)) (single 1 66) ⇒ refuse (at (Free 1)) Refusal.QueueFull
    ∷ post sample (event_begun (controls 0 1 0 0 0 0 3 2)) (at (event1 1)) (single 1 66) ⇒ refuse (at (event1 1)) Refusal.QueueFull
    ∷ post sample (controls 2 1 0 0 1 0 0 3) (at (Free 0)) (single 1 66) ⇒ refuse (at (Free 0)) Refusal.QueueFull
    ∷ post sample (event_begun (controls 2 1 0 0 1 0 1 0)) (at (Free 1)) (single 1 66) ⇒ refuse (at (Free 1)) Refusal.QueueFull
    ∷ post sample (controls 2 1 0 0 1 0 1 0) (at (Free 2)) (single 1 66) ⇒ refuse (at (Free 2)) Refusal.QueueFull
    ∷ post sample full_at2 (about_to_drop (at (task1 2))) (single 1 66) ⇒ refuse (about_to_drop (at (task1 2))) Refusal.HandlerBusy
    -- "Longer bursts drop nothing"
    ∷ post sample full_at2 (at (task1 2)) (two 1 0) ⇒ refuse (at (task1 2)) Refusal.QueueFull
    ∷ post sample full_at2 (at (task1 2)) (two 1 0 ++ two 1 0) ⇒ refuse (at (task1 2)) Refusal.QueueFull
    -- N6: "33 burst of zero or over four, checked just before 8"
    ∷ post sample empty_at2 (at (task1 2)) three ⇒ out none (three_handled 0) Answer.Done
    ∷ post sample empty_at2 (at (task1 2)) [] ⇒ refuse (at (task1 2)) Refusal.BurstLength
    ∷ post sample empty_at2 (handling 1) (two 2 2 ++ three) ⇒ refuse (handling 1) Refusal.BurstLength
    ∷ post sample opened off_value [] ⇒ refuse off_value Refusal.PowerOff
    ∷ post sample (task_begun (controls 0 1 8 0 0 0 2 1)) (handling 1) [] ⇒ refuse (handling 1) Refusal.State
    -- "8 at its first bad event (place: position from 0)", "and 21 when the whole burst doesn't fit": four never fit where Q is 3; in phase 2 a
    -- committed record's slot counts until head has moved
    ∷ post sample empty_at2 (handling 1) (two 1 2) ⇒ refuse (handling 1) (Refusal.NoEvent 1)
    ∷ post sample empty_at2 (handling 1) (two 1 0 ++ two 2 2) ⇒ refuse (handling 1) (Refusal.NoEvent 2)
    ∷ post sample empty_at2 (at (task1 2)) (three ++ single 7 9) ⇒ refuse (at (task1 2)) (Refusal.NoEvent 3)
    ∷ post sample empty_at2 (at (task1 2)) (two 1 0 ++ two 1 0) ⇒ refuse (at (task1 2)) Refusal.QueueFull
    ∷ post sample empty_at2 (handling 1) (two 1 0 ++ two 1 0) ⇒ refuse (handling 1) Refusal.HandlerBusy
    ∷ post sample (task_begun opened) (at (task1 2)) (two 1 0) ⇒ refuse (at (task1 2)) Refusal.QueueFull
    ∷ post sample (controls 2 1 0 0 1 0 0 2) (at (Free 0)) (two 1 0) ⇒ refuse (at (Free 0)) Refusal.QueueFull
    ∷ post sample (controls 2 1 0 0 1 0 1 2) (at (Free 1)) (two 1 0) ⇒ out none (working (at (Free 1)) 2 0 (1 ∷ 66 ∷ 0 ∷ 67 ∷ [])) Answer.Done
    -- "Boot makes no store and turns that value on"; "boot 1 to 7, 26"; "A cut refuses nothing"
    ∷ boot sample opened off_value ⇒ out none on_value Answer.Done
    ∷ boot sample task_commit (working (device_with false registers (task1 2) 1 Resting) 1 2 (1 ∷ 66 ∷ [])) ⇒ out none on_value Answer.Done
    ∷ boot sample opened on_value ⇒ refuse on_value Refusal.PowerOn
    ∷ boot sample wrong_open on_value ⇒ refuse on_value (Refusal.Control 10)
    ∷ boot sample (controls 0 5 9 0 0 0 3 1) off_value ⇒ refuse off_value (Refusal.Control 9)
    ∷ boot sample (controls 1 1 8 2 2 9 3 1) off_value ⇒ refuse off_value (Refusal.Control 13)
    ∷ boot sample (set task_commit 25 6) off_value ⇒ refuse off_value (Refusal.Control 25)
    ∷ boot sample (set (set (set (formatted sample 2 1) 8 1) 11 2) 25 6) off_value ⇒ refuse off_value (Refusal.Control 25)
    ∷ boot sample (set event_commit 27 2) off_value ⇒ refuse off_value (Refusal.Control 27)
    ∷ boot sample (set event_commit 33 2) off_value ⇒ out none on_value Answer.Done
    -- N4: "a boot in phase 0 takes up the begun body at its first instruction, registers as at choosing"; in phases 1 and 2 it doesn't
    ∷ boot sample (task_begun opened) off_value ⇒ takes_up (Body.Task 1) 0
    ∷ boot sample (task_begun closed) off_value ⇒ takes_up (Body.Task 1) 0
    ∷ boot sample (event_begun closed) off_value ⇒ takes_up (Body.Event 1) 53
    ∷ boot sample (task_begun opened) (working (device_with false registers (task1 2) 1 Resting) 1 2 (1 ∷ 66 ∷ [])) ⇒ takes_up (Body.Task 1) 0
    ∷ boot sample (task_begun task_commit) off_value ⇒ out none on_value Answer.Done
    ∷ boot sample (event_begun event_commit) off_value ⇒ out none on_value Answer.Done
    ∷ boot sample (task_begun opened) on_value ⇒ refuse on_value Refusal.PowerOn
    ∷ cut ⇒ out none off_value Answer.Done
    ∷ []

-- after the contents and the control words come six words of memory, two pairs, four slots
unfoldable pub places_of_words : List (Row (List ℕ))
places_of_words =
    map (index closed) (Phase ∷ Task ∷ Open ∷ Count ∷ Pending ∷ PendingOpen ∷ Head ∷ Tail ∷ Begun ∷ []) ⇒ (8 ∷ 9 ∷ 10 ∷ 11 ∷ 12 ∷ 13 ∷ 14 ∷ 15 ∷ 16 ∷ [])
    ∷ map (index closed) (Memory 0 ∷ Memory 5 ∷ []) ⇒ (17 ∷ 22 ∷ [])
    ∷ map (index closed) (Address 0 ∷ Value 0 ∷ Address 1 ∷ Value 1 ∷ []) ⇒ (23 ∷ 24 ∷ 25 ∷ 26 ∷ [])
    ∷ map (index closed) (Event 0 ∷ Datum 0 ∷ Event 3 ∷ Datum 3 ∷ []) ⇒ (27 ∷ 28 ∷ 33 ∷ 34 ∷ [])
    ∷ settled closed (to (Value 1) 9) ⇒ set closed 26 9
    ∷ settled closed (to Begun 9) ⇒ set closed 16 9
    ∷ settled closed none ⇒ closed
    ∷ []

-- how many records more the ring of four slots takes, by head and tail
abbrev room_between : ℕ → ℕ → ℕ
room_between h t = room (view (controls 0 1 8 0 0 0 h t))

unfoldable pub rooms : List (Row ℕ)
rooms =
    room_between 0 0 ⇒ 3
    ∷ room_between 3 3 ⇒ 3
    ∷ room_between 0 1 ⇒ 2
    ∷ room_between 3 0 ⇒ 2
    ∷ room_between 3 1 ⇒ 1
    ∷ room_between 0 3 ⇒ 0
    ∷ room_between 2 1 ⇒ 0
    ∷ []

-- ---- Lists of calls, on a store freshly formatted with L 2 and Q 3, the device off at first

abbrev answers_of : List ℕ → List Call → List Answer
answers_of p cs = map (λ (x : Line). x.answered) (history p (formatted p 2 3) off_value cs)

abbrev answers : List Call → List Answer
answers cs = answers_of sample cs

abbrev left : List Call → Now
left cs = after_calls sample (formatted sample 2 3) off_value cs

-- the stores after so many steps, after so many more, and so on
unfoldable pub stores_after : Now → List ℕ → List (List ℕ)
stores_after now [] = []
stores_after now (n ∷ ns) =
    let next = after_calls sample now.store now.device (steps n) in
    next.store ∷ stores_after next ns

-- an event posted, and accepted by three steps
abbrev pub posted : ℕ → ℕ → List Call
posted e x = Post (single e x) ∷ Step ∷ Step ∷ Step ∷ []

-- three posted together, and accepted by seven
abbrev three_posted : List Call
three_posted = Post three ∷ steps 7

abbrev is_accepted : List Answer
is_accepted = Answer.Done ∷ Answer.Stored ∷ Answer.Stored ∷ accepted ∷ []

-- a task is chosen; one that only goes on commits, with no pair to copy; an event saves its data and commits, with one pair
abbrev chosen : ℕ → List Answer
chosen t = Answer.Chosen (Body.Task t) ∷ []

abbrev goes_on : ℕ → List Answer
goes_on t = chosen t ++ replicate 3 Answer.Stored ++ Answer.Committed (Body.Task t) ∷ replicate 4 Answer.Stored

abbrev is_served : ℕ → List Answer
is_served e = Answer.Chosen (Body.Event e) ∷ replicate 4 Answer.Stored ++ Answer.Committed (Body.Event e) ∷ replicate 4 Answer.Stored

-- Task 1 is chosen, then event 0 is posted. It waits for the transaction of tasks 1, 2 and 3 to close; tasks 0, 4 and 1 follow, with
-- numbers 0, 9 and 8.
abbrev transaction_calls : List Call
transaction_calls = Boot ∷ Step ∷ posted 0 50

-- these, and task 1's SET, SAVE, ADD and GO
abbrev transaction_begins : List Answer
transaction_begins =
    Answer.Done ∷ chosen 1 ++ is_accepted ++ Answer.Worked ∷ Answer.Stored ∷ Answer.Stored ∷ Answer.Worked ∷ replicate 3 Answer.Stored
    ++ Answer.Committed (Body.Task 1) ∷ replicate 5 Answer.Stored

-- Task 0, as the entry task, is chosen, then event 0 is accepted. The task has no transaction: it commits, and the event is chosen.
abbrev from_task0 : List Call → List Answer
from_task0 cs = answers_of (set sample 4 0) cs

abbrev while_begun : List Call
while_begun = Boot ∷ Step ∷ posted 0 50

abbrev is_begun : List Answer
is_begun = Answer.Done ∷ chosen 0 ++ is_accepted

abbrev commits_first : List Answer
commits_first = replicate 3 Answer.Stored ++ Answer.Committed (Body.Task 0) ∷ replicate 4 Answer.Stored ++ Answer.Chosen (Body.Event 0) ∷ []

-- task 1 with LOADX 3 1 0 in the place of ADD: register 1 holds 9, which is no address
abbrev is_refused_at_load : List Answer
is_refused_at_load = Answer.Worked ∷ Answer.Stored ∷ Answer.Stored ∷ Answer.Refused Refusal.Address ∷ []

-- three records wait, two more find the queue full; an event is served, and a record goes into the ring's last slot
abbrev filled : List Call
filled = Boot ∷ posted 0 50 ++ posted 1 51 ++ posted 0 52

abbrev refilled : List Call
refilled = filled ++ Post (two 1 0) ∷ steps 10 ++ posted 1 53

-- N7: a fourth drops the oldest, and one more the next; where the second event is begun, a fifth is refused
abbrev replaced : List Call
replaced = filled ++ posted 1 53 ++ Step ∷ posted 0 54 ++ steps 2 ++ Post (single 0 55) ∷ []

abbrev replaces_all : List Answer
replaces_all =
    Answer.Done ∷ is_accepted ++ is_accepted ++ is_accepted
    ++ Answer.Done ∷ replicate 3 Answer.Stored ++ Answer.Accepted (Some (holds 0 50))
    ∷ Answer.Done ∷ replicate 3 Answer.Stored ++ Answer.Accepted (Some (holds 1 51))
    ∷ Answer.Chosen (Body.Event 0) ∷ Answer.Refused Refusal.QueueFull ∷ []

abbrev is_full : List Answer
is_full = Answer.Refused Refusal.QueueFull ∷ []

abbrev queue_refilled : List Answer
queue_refilled = Answer.Done ∷ is_accepted ++ is_accepted ++ is_accepted ++ is_full ++ is_served 0 ++ is_accepted

unfoldable pub schedules : List (Row (List Answer))
schedules =
    answers (transaction_calls ++ steps 60) ⇒ (transaction_begins ++ goes_on 2 ++ goes_on 3 ++ is_served 0 ++ goes_on 0 ++ goes_on 4 ++ chosen 1)
    -- cut with the transaction open, at GO: task 2 is taken up, and its GO is next
    ∷ answers (transaction_calls ++ steps 17 ++ Cut ∷ Boot ∷ Step ∷ [])
    ⇒ (transaction_begins ++ chosen 2 ++ replicate 3 Answer.Stored ++ replicate 2 Answer.Done ++ Answer.Stored ∷ [])
    -- "An event accepted while a task is begun now runs after that task, cut or no cut"
    ∷ from_task0 (while_begun ++ steps 9) ⇒ (is_begun ++ commits_first)
    ∷ from_task0 (while_begun ++ Cut ∷ Boot ∷ steps 9) ⇒ (is_begun ++ replicate 2 Answer.Done ++ commits_first)
    ∷ from_task0 (while_begun ++ steps 3 ++ Cut ∷ Boot ∷ steps 9)
    ⇒ (is_begun ++ replicate 3 Answer.Stored ++ replicate 2 Answer.Done ++ commits_first)
    -- cut just before the task is chosen: the event is chosen first
    ∷ from_task0 (Boot ∷ posted 0 50 ++ Cut ∷ Boot ∷ Step ∷ []) ⇒ (Answer.Done ∷ is_accepted ++ replicate 2 Answer.Done ++ Answer.Chosen (Body.Event 0) ∷ [])
    -- 23 is met again after a cut: the body is taken up again
    ∷ answers_of (with_instruction 0x0A31 0) (Boot ∷ steps 5 ++ Cut ∷ Boot ∷ steps 4)
    ⇒ (Answer.Done ∷ chosen 1 ++ is_refused_at_load ++ replicate 2 Answer.Done ++ is_refused_at_load)
    ∷ answers replaced ⇒ replaces_all
    ∷ answers (refilled ++ Post (two 0 1) ∷ steps 31) ⇒ (queue_refilled ++ is_full ++ is_served 1 ++ is_served 0 ++ is_served 1 ++ chosen 1)
    -- three are accepted together; the next to be served are these, in order
    ∷ answers (Boot ∷ three_posted ++ steps 21)
    ⇒ (Answer.Done ∷ Answer.Done ∷ replicate 6 Answer.Stored ++ accepted ∷ is_served 1 ++ is_served 0 ++ Answer.Chosen (Body.Event 1) ∷ [])
    ∷ []

unfoldable pub open_numbers : List (Row (List ℕ))
open_numbers =
    -- after tasks 1, 2 and 3, event 0, tasks 0 and 4
    map (λ (s : List ℕ). (view s).open_number) (stores_after (left transaction_calls) (13 ∷ 9 ∷ 9 ∷ 10 ∷ 9 ∷ 9 ∷ [])) ⇒ (8 ∷ 8 ∷ 0 ∷ 0 ∷ 0 ∷ 0 ∷ [])
    -- "The new open number is the ended task's if that isn't 0 and the next task has the same; otherwise 0"
    ∷ (new_open 8 8 ∷ new_open 8 9 ∷ new_open 8 0 ∷ new_open 0 8 ∷ new_open 0 0 ∷ []) ⇒ (8 ∷ 0 ∷ 0 ∷ 0 ∷ 0 ∷ [])
    ∷ []

-- before and after each of the three events that wait
unfoldable pub memories : List (Row (List (List ℕ)))
memories =
    map (λ (s : List ℕ). (view s).memory) (stores_after (left refilled) (0 ∷ 10 ∷ 10 ∷ 10 ∷ []))
    ⇒ ((50 ∷ 0 ∷ 0 ∷ 0 ∷ 0 ∷ 0 ∷ [])
    ∷ (50 ∷ 0 ∷ 0 ∷ 0 ∷ 0 ∷ 51 ∷ [])
    ∷ (52 ∷ 0 ∷ 0 ∷ 0 ∷ 0 ∷ 51 ∷ [])
    ∷ (52 ∷ 0 ∷ 0 ∷ 0 ∷ 0 ∷ 53 ∷ [])
    ∷ [])
    ∷ []

-- "The waiting records run to tail from head, in phase 2 from word 12"
unfoldable pub waiting_records : List (Row (List Record))
waiting_records =
    waiting (view (left (Boot ∷ posted 0 50)).store) ⇒ (holds 0 50 ∷ [])
    ∷ waiting (view (left (Boot ∷ posted 0 50 ++ posted 1 51)).store) ⇒ (holds 0 50 ∷ holds 1 51 ∷ [])
    ∷ waiting (view (left filled).store) ⇒ (holds 0 50 ∷ holds 1 51 ∷ holds 0 52 ∷ [])
    ∷ waiting (view (left refilled).store) ⇒ (holds 1 51 ∷ holds 0 52 ∷ holds 1 53 ∷ [])
    ∷ waiting (view (left (refilled ++ steps 6)).store) ⇒ (holds 0 52 ∷ holds 1 53 ∷ [])
    ∷ waiting (view (left (refilled ++ steps 10 ++ posted 0 55)).store) ⇒ (holds 0 52 ∷ holds 1 53 ∷ holds 0 55 ∷ [])
    ∷ waiting (view (controls 1 1 0 0 1 0 3 1)) ⇒ (holds 1 53 ∷ holds 0 50 ∷ [])
    ∷ waiting (view (controls 2 1 0 0 0 0 3 1)) ⇒ (holds 0 50 ∷ [])
    ∷ waiting (view (controls 0 1 0 0 1 0 2 2)) ⇒ []
    -- N6: before the tail store none of three, after it all
    ∷ waiting (view (left (Boot ∷ Post three ∷ steps 6)).store) ⇒ []
    ∷ waiting (view (left (Boot ∷ Post three ∷ steps 6 ++ Cut ∷ Boot ∷ steps 9)).store) ⇒ []
    ∷ waiting (view (left (Boot ∷ three_posted ++ Cut ∷ Boot ∷ [])).store) ⇒ three
    ∷ waiting (view (left (Boot ∷ posted 0 50 ++ steps 10 ++ three_posted)).store) ⇒ three
    -- a burst's words and back
    ∷ carried (burst_words three) 3 ⇒ three
    ∷ carried (1 ∷ 66 ∷ 0 ∷ 67 ∷ 1 ∷ 68 ∷ 7 ∷ 8 ∷ []) 2 ⇒ two 1 0
    ∷ []

-- ---- The host's totals

abbrev totals : ℕ → ℕ → ℕ → Totals
totals c a s = record { committed = c; accepted = a; stores = s }

abbrev greatest : ℕ
greatest = 0xFFFFFFFF

abbrev commit_store : Outcome
commit_store = out (to Phase 1) on_value (Answer.Committed (Body.Task 1))

abbrev tail_store : Outcome
tail_store = out (to Tail 1) on_value accepted

-- what a step adds, with a handler before it
abbrev counted_of : Handler → Totals → Outcome → Totals
counted_of handler t o = counted t handler o

unfoldable pub countings : List (Row Totals)
countings =
    counted_of (Storing 1 2) (totals 5 60 700) commit_store ⇒ totals 6 60 701
    ∷ counted_of (Storing 1 2) (totals 5 60 700) (out (to Phase 2) on_value (Answer.Committed (Body.Event 1))) ⇒ totals 6 60 701
    ∷ counted_of (Storing 1 2) (totals 5 60 700) tail_store ⇒ totals 5 61 701
    ∷ counted_of (Replacing 2) (totals 5 60 700) (out (to Tail 1) on_value (Answer.Accepted (Some (holds 0 52)))) ⇒ totals 5 61 701
    ∷ counted_of Dropping (totals 5 60 700) (out (to Head 1) on_value Answer.Stored) ⇒ totals 5 60 701
    -- N6: "The accepted total rises by the burst's length"
    ∷ counted_of (Storing 3 6) (totals 5 60 700) tail_store ⇒ totals 5 63 701
    ∷ counted_of (Storing 3 5) (totals 5 60 700) (out (to (Datum 0) 1) on_value Answer.Stored) ⇒ totals 5 60 701
    ∷ counted_of (Storing 1 2) (totals 5 60 700) (out (to Count 1) on_value Answer.Stored) ⇒ totals 5 60 701
    ∷ counted_of (Storing 1 2) (totals 5 60 700) (out none on_value Answer.Worked) ⇒ totals 5 60 700
    ∷ counted_of (Storing 1 2) (totals 5 60 700) (out (to Begun 2) on_value (Answer.Chosen (Body.Event 1))) ⇒ totals 5 60 701
    ∷ counted_of (Storing 1 2) (totals 5 60 700) (out none on_value Answer.Done) ⇒ totals 5 60 700
    ∷ counted_of (Storing 1 2) (totals 5 60 700) (refuse on_value Refusal.LogFull) ⇒ totals 5 60 700
    -- "32 bits, staying at the largest value"
    ∷ counted_of (Storing 1 2) (totals 0xFFFFFFFE 60 0xFFFFFFFE) commit_store ⇒ totals greatest 60 greatest
    ∷ counted_of (Storing 1 2) (totals greatest 60 greatest) commit_store ⇒ totals greatest 60 greatest
    ∷ counted_of (Storing 1 2) (totals 5 0xFFFFFFFE greatest) tail_store ⇒ totals 5 greatest greatest
    ∷ counted_of (Storing 1 2) (totals 5 greatest greatest) tail_store ⇒ totals 5 greatest greatest
    ∷ counted_of (Storing 4 8) (totals 5 0xFFFFFFFB 7) tail_store ⇒ totals 5 greatest 8
    ∷ counted_of (Storing 4 8) (totals 5 0xFFFFFFFD 7) tail_store ⇒ totals 5 greatest 8
    ∷ []

-- ---- Run

abbrev ran : ℕ → Checked → List ℕ → Device → Totals → RunOutcome
ran n e s d t = record { steps = n; ended = e; store = s; device = d; totals = t }

-- a freshly formatted store with other control words, memory, log and ring
abbrev words : List ℕ → List ℕ → List ℕ → List ℕ → List ℕ
words control memory log ring = 0xC0A2 ∷ 6 ∷ 2 ∷ 3 ∷ 8 ∷ 17 ∷ 23 ∷ 27 ∷ control ++ memory ++ log ++ ring

-- event 0 is posted with data 50: a run accepts it in 3 steps, serves it in 10 with 10 stores, and ends task 1 in 14 with 12 stores
abbrev runs : ℕ → RunOutcome
runs budget = run sample budget (formatted sample 2 3) (working on_value 1 0 (0 ∷ 50 ∷ [])) (totals 0 0 0)

abbrev event_accepted : List ℕ
event_accepted = words (0 ∷ 1 ∷ 0 ∷ 0 ∷ 0 ∷ 0 ∷ 0 ∷ 1 ∷ 0 ∷ []) (replicate 6 0) (replicate 4 0) (0 ∷ 50 ∷ replicate 6 0)

abbrev event_served : List ℕ
event_served = words (0 ∷ 1 ∷ 0 ∷ 1 ∷ 1 ∷ 0 ∷ 1 ∷ 1 ∷ 0 ∷ []) (50 ∷ replicate 5 0) (0 ∷ 50 ∷ 0 ∷ 0 ∷ []) (0 ∷ 50 ∷ replicate 6 0)

abbrev task_ended : List ℕ
task_ended = words (0 ∷ 2 ∷ 8 ∷ 1 ∷ 2 ∷ 8 ∷ 1 ∷ 1 ∷ 0 ∷ []) (50 ∷ 0 ∷ 0 ∷ 0 ∷ 9 ∷ 0 ∷ []) (4 ∷ 9 ∷ 0 ∷ 0 ∷ []) (0 ∷ 50 ∷ replicate 6 0)

-- task 1 with LOADX 3 1 0 in the place of ADD again
abbrev runs_wrong : ℕ → RunOutcome
runs_wrong budget = run (with_instruction 0x0A31 0) budget (formatted sample 2 3) on_value (totals 10 20 30)

abbrev at_load : Checked → RunOutcome
at_load e =
    ran 4 e (words (0 ∷ 1 ∷ 0 ∷ 0 ∷ 0 ∷ 0 ∷ 0 ∷ 0 ∷ 1 ∷ []) (replicate 6 0) (4 ∷ 9 ∷ 0 ∷ 0 ∷ []) (replicate 8 0))
    (device_with true (set cleared 1 9) (task1 2) 1 Resting) (totals 10 20 33)

unfoldable pub run_rows : List (Row RunOutcome)
run_rows =
    runs 3 ⇒ ran 3 (Ok tt) event_accepted on_value (totals 0 1 3)
    ∷ runs 13 ⇒ ran 13 (Ok tt) event_served on_value (totals 1 1 13)
    ∷ runs 27 ⇒ ran 27 (Ok tt) task_ended on_value (totals 2 1 25)
    -- "the count of steps made, with spent or the refusal"
    ∷ runs_wrong 4 ⇒ at_load (Ok tt)
    ∷ runs_wrong 99 ⇒ at_load (Err Refusal.Address)
    ∷ run sample 99 opened off_value (totals 10 20 30) ⇒ ran 0 (Err Refusal.PowerOff) opened off_value (totals 10 20 30)
    -- in a commit that is about to make its last store, and whose word 16 isn't 0: the step after it meets 25
    ∷ run sample 99 (task_begun task_commit) (at (Free 5)) (totals 10 20 30)
    ⇒ ran 1 (Err Refusal.State) (set (task_begun task_commit) 8 0) on_value (totals 10 20 31)
    -- "a budget of 0 looks at nothing and returns spent"
    ∷ run [] 0 [] off_value (totals 10 20 30) ⇒ ran 0 (Ok tt) [] off_value (totals 10 20 30)
    ∷ []

-- ---- Recovery: "a cut, a boot, then steps while the phase isn't 0"

-- with a cut before it, after n steps
abbrev recovered_from : List ℕ → ℕ → Recovery
recovered_from s n = recovery sample 9 (after_calls sample s off_value (Boot ∷ steps n ++ Cut ∷ [])).store

-- memory words 2 and 3 from the log, task 2 current; memory word 2 from the log, head moved on
abbrev task_done : List ℕ
task_done = set (set (controls 0 2 8 2 2 8 3 1) 19 777) 20 888

abbrev event_done : List ℕ
event_done = set (controls 0 1 0 1 0 0 0 1) 19 777

unfoldable pub recoveries : List (Row Recovery)
recoveries =
    -- "n + 3 steps from phase 1"; N4: "one step more"
    recovery sample 6 task_commit ⇒ recovered 6 task_done
    ∷ recovery sample 5 task_commit ⇒ unfinished
    ∷ recovered_from task_commit 0 ⇒ recovered 6 task_done
    ∷ recovered_from task_commit 1 ⇒ recovered 6 task_done
    ∷ recovered_from task_commit 2 ⇒ recovered 6 task_done
    ∷ recovered_from task_commit 3 ⇒ recovered 6 task_done
    ∷ recovered_from task_commit 4 ⇒ recovered 6 task_done
    ∷ recovered_from task_commit 5 ⇒ recovered 6 task_done
    ∷ recovered_from task_commit 6 ⇒ recovered 0 task_done
    ∷ recovered_from (task_begun task_commit) 4 ⇒ recovered 6 task_done
    ∷ recovered_from (task_begun task_commit) 6 ⇒ recovered 0 task_done
    -- "and n + 2 from phase 2"
    ∷ recovery sample 4 event_commit ⇒ recovered 4 event_done
    ∷ recovery sample 3 event_commit ⇒ unfinished
    ∷ recovered_from event_commit 0 ⇒ recovered 4 event_done
    ∷ recovered_from event_commit 1 ⇒ recovered 4 event_done
    ∷ recovered_from event_commit 2 ⇒ recovered 4 event_done
    ∷ recovered_from event_commit 3 ⇒ recovered 4 event_done
    ∷ recovered_from event_commit 4 ⇒ recovered 0 event_done
    ∷ recovered_from (event_begun event_commit) 2 ⇒ recovered 4 event_done
    ∷ recovered_from (event_begun event_commit) 4 ⇒ recovered 0 event_done
    -- in phase 0 nothing is left to do; a store that boot refuses isn't recovered
    ∷ recovery sample 0 closed ⇒ recovered 0 closed
    ∷ recovery sample 0 (event_begun closed) ⇒ recovered 0 (event_begun closed)
    ∷ recovery sample 9 wrong_open ⇒ Recovery.refused (Refusal.Control 10)
    ∷ []

-- ---- "Numbers returned"

abbrev refusal_number : ℕ → ℕ → ℕ → RefusalNumber
refusal_number n x y = record { number = n; first = x; second = y }

unfoldable pub numbers : List (Row RefusalNumber)
numbers =
    refusal Refusal.ProgramLength ⇒ refusal_number 1 0 0
    ∷ refusal Refusal.ProgramMark ⇒ refusal_number 2 0 0
    ∷ refusal (Refusal.ProgramSize 41) ⇒ refusal_number 3 41 0
    ∷ refusal (Refusal.Row 42) ⇒ refusal_number 4 42 0
    ∷ refusal (Refusal.Instruction 43 44) ⇒ refusal_number 5 43 44
    ∷ refusal Refusal.StoreContents ⇒ refusal_number 6 0 0
    ∷ refusal (Refusal.Control 45) ⇒ refusal_number 7 45 0
    ∷ refusal (Refusal.NoEvent 3) ⇒ refusal_number 8 3 0
    ∷ refusal Refusal.StoreSize ⇒ refusal_number 9 0 0
    ∷ refusal Refusal.HandlerBusy ⇒ refusal_number 20 0 0
    ∷ refusal Refusal.QueueFull ⇒ refusal_number 21 0 0
    ∷ refusal Refusal.PowerOff ⇒ refusal_number 22 0 0
    ∷ refusal Refusal.Address ⇒ refusal_number 23 0 0
    ∷ refusal Refusal.LogFull ⇒ refusal_number 24 0 0
    ∷ refusal Refusal.State ⇒ refusal_number 25 0 0
    ∷ refusal Refusal.PowerOn ⇒ refusal_number 26 0 0
    ∷ refusal (Refusal.LinesRow 46) ⇒ refusal_number 30 46 0
    ∷ refusal (Refusal.LinesGap 47 48) ⇒ refusal_number 31 47 48
    ∷ refusal (Refusal.LinesOverlap 49 50) ⇒ refusal_number 32 49 50
    ∷ refusal Refusal.BurstLength ⇒ refusal_number 33 0 0
    ∷ []

-- ---- The serial run

pub data Summary : Type 0 where
  stopped : Summary
  -- memory, current task, open number, records
  holding : List ℕ → ℕ → ℕ → List Record → Summary
  -- N7: with what was dropped for the latest post, and all that were dropped
  dropping : List Record → Option Record → List Record → Summary

unfoldable pub summary : Option Serial → Summary
summary None = stopped
summary (Some z) = holding z.memory z.task z.open_number z.records

unfoldable pub drops : Option Serial → Summary
drops None = stopped
drops (Some z) = dropping z.records z.posting.dropped_for z.posting.dropped

-- what the serial run makes of lines, with this much fuel, of another program, and of a list of calls with the device's answers
abbrev serially : ℕ → List ℕ → List Line → Summary
serially fuel p xs = summary (serial fuel (given p 2 3) xs)

abbrev from_lines : List Line → Summary
from_lines xs = serially 4 sample xs

abbrev from_calls : List Call → Summary
from_calls cs = serially 99 sample (history sample (formatted sample 2 3) off_value cs)

abbrev line : Call → Answer → List Line
line c a = record { called = c; answered = a } ∷ []

abbrev accepts : ℕ → ℕ → List Line
accepts e x = line (Post (single e x)) Answer.Done ++ line Step accepted

abbrev accepts_three : List Line
accepts_three = line (Post three) Answer.Done ++ line Step Answer.Stored ++ line Step accepted

-- N7: three records wait, and a post is done
abbrev posts : ℕ → ℕ → List Line
posts e x = line (Post (single e x)) Answer.Done

abbrev is_filled : List Line
is_filled = accepts 0 50 ++ accepts 1 51 ++ accepts 0 52

abbrev drops_of : List Line → Summary
drops_of xs = drops (serial 4 (given sample 2 3) xs)

abbrev drops_of_calls : List Call → Summary
drops_of_calls cs = drops (serial 99 (given sample 2 3) (history sample (formatted sample 2 3) off_value cs))

abbrev refused_post : List Line
refused_post = line (Post (single 1 51)) (Answer.Refused Refusal.HandlerBusy)

abbrev stores : List Line
stores = line Step Answer.Stored

abbrev commits : Body → List Line
commits b = line Step (Answer.Committed b)

abbrev untouched : List ℕ
untouched = 0 ∷ 0 ∷ 0 ∷ 0 ∷ 0 ∷ 0 ∷ []

-- memory after task 1; after event 0 with data 50
abbrev after_task1 : List ℕ
after_task1 = 0 ∷ 0 ∷ 0 ∷ 0 ∷ 9 ∷ 0 ∷ []

abbrev after_event0 : List ℕ
after_event0 = 50 ∷ 0 ∷ 0 ∷ 0 ∷ 0 ∷ 0 ∷ []

unfoldable pub serial_runs : List (Row Summary)
serial_runs =
    -- "It starts with memory 0, the entry task as current task, open number 0 and no records"
    from_lines [] ⇒ holding untouched 1 0 []
    -- "The answer accepted adds what the latest post with the answer done carried"
    ∷ from_lines (accepts 0 50 ++ accepts 1 51) ⇒ holding untouched 1 0 (holds 0 50 ∷ holds 1 51 ∷ [])
    ∷ from_lines (line (Post (single 0 50)) Answer.Done ++ line Cut Answer.Done ++ accepts 1 51) ⇒ holding untouched 1 0 (holds 1 51 ∷ [])
    ∷ from_lines (line (Post (single 0 50)) Answer.Done ++ refused_post ++ line Step accepted) ⇒ holding untouched 1 0 (holds 0 50 ∷ [])
    ∷ from_lines (accepts 0 50 ++ accepts_three) ⇒ holding untouched 1 0 (holds 0 50 ∷ three)
    ∷ from_lines (line Step accepted) ⇒ stopped  -- before any post
    -- "for a task the current one"; "to DONE or to GO, which sets current task and open number"
    ∷ from_lines (commits (Body.Task 1)) ⇒ holding after_task1 2 8 []
    ∷ from_lines (commits (Body.Task 1) ++ commits (Body.Task 2)) ⇒ holding after_task1 3 8 []
    ∷ from_lines (commits (Body.Task 1) ++ commits (Body.Task 2) ++ commits (Body.Task 3)) ⇒ holding after_task1 0 0 []
    ∷ from_lines (commits (Body.Task 1) ++ accepts 0 50) ⇒ holding after_task1 2 8 (holds 0 50 ∷ [])
    ∷ from_lines (commits (Body.Task 2)) ⇒ stopped
    -- "for an event that of the oldest record, which goes"
    ∷ from_lines (accepts 0 50 ++ accepts 1 51 ++ commits (Body.Event 0)) ⇒ holding after_event0 1 0 (holds 1 51 ∷ [])
    ∷ from_lines (accepts 0 50 ++ accepts 1 51 ++ commits (Body.Event 1)) ⇒ stopped
    -- "at an event a record is there and the open number is 0"
    ∷ from_lines (commits (Body.Event 0)) ⇒ stopped
    ∷ from_lines (accepts 0 50 ++ commits (Body.Task 1) ++ commits (Body.Event 0)) ⇒ stopped
    -- "each body run .. ends, each address below M": three instructions of four; LOADX and SAVEX at word 6; JUMP 2 for ever, JUMP 4;
    -- DONE in a task, GO in an event
    ∷ serially 3 sample (commits (Body.Task 1)) ⇒ stopped
    ∷ serially 9 (set (with_instruction 0x0A31 0) 30 6) (commits (Body.Task 1)) ⇒ stopped
    ∷ serially 9 (set (with_instruction 0x0B31 0) 30 6) (commits (Body.Task 1)) ⇒ stopped
    ∷ serially 9 (with_instruction 0x0C00 2) (commits (Body.Task 1)) ⇒ stopped
    ∷ serially 9 (with_instruction 0x0C00 4) (commits (Body.Task 1)) ⇒ stopped
    ∷ serially 9 (set sample 35 0x1000) (commits (Body.Task 1)) ⇒ stopped
    ∷ serially 9 (set sample 45 0x0F00) (accepts 0 50 ++ commits (Body.Event 0)) ⇒ stopped
    -- "instructions run from the first, on memory without a log": SAVEX 1 0 5, SAVE 2 5 and JUMP 3 for ADD;
    -- register 7 in the place of register 1; the counting program
    ∷ serially 4 (with_instruction 0x0B10 5) (commits (Body.Task 1)) ⇒ holding (0 ∷ 0 ∷ 0 ∷ 0 ∷ 9 ∷ 9 ∷ []) 2 8 []
    ∷ serially 4 (with_instruction 0x0920 5) (commits (Body.Task 1)) ⇒ holding after_task1 2 8 []
    ∷ serially 4 (with_instruction 0x0C00 3) (commits (Body.Task 1)) ⇒ holding after_task1 2 8 []
    ∷ serially 4 (set (set sample 29 0x0070) 31 0x0970) (commits (Body.Task 1)) ⇒ holding after_task1 2 8 []
    ∷ serially 5 counting (commits (Body.Task 0) ++ commits (Body.Task 0)) ⇒ holding (2 ∷ 0 ∷ []) 0 0 []
    -- N7: "drops its oldest record at a stored answer when the last call before it that wasn't refused is a post that found Q records": at one stored
    -- answer, behind refused calls too; not where a cut, a boot or another step came between, nor where the post found fewer
    ∷ drops_of (is_filled ++ posts 1 53) ⇒ dropping (holds 0 50 ∷ holds 1 51 ∷ holds 0 52 ∷ []) None []
    ∷ drops_of (is_filled ++ posts 1 53 ++ stores) ⇒ dropping (holds 1 51 ∷ holds 0 52 ∷ []) (Some (holds 0 50)) (holds 0 50 ∷ [])
    ∷ drops_of (is_filled ++ posts 1 53 ++ refused_post ++ line Boot (Answer.Refused Refusal.PowerOn) ++ stores)
    ⇒ dropping (holds 1 51 ∷ holds 0 52 ∷ []) (Some (holds 0 50)) (holds 0 50 ∷ [])
    ∷ drops_of (is_filled ++ posts 1 53 ++ stores ++ stores ++ line Step (Answer.Accepted (Some (holds 0 50))))
    ⇒ dropping (holds 1 51 ∷ holds 0 52 ∷ holds 1 53 ∷ []) (Some (holds 0 50)) (holds 0 50 ∷ [])
    ∷ drops_of (is_filled ++ posts 1 53 ++ line Cut Answer.Done ++ stores) ⇒ dropping (holds 0 50 ∷ holds 1 51 ∷ holds 0 52 ∷ []) None []
    ∷ drops_of (is_filled ++ posts 1 53 ++ line Boot Answer.Done ++ stores) ⇒ dropping (holds 0 50 ∷ holds 1 51 ∷ holds 0 52 ∷ []) None []
    ∷ drops_of (is_filled ++ posts 1 53 ++ line Step Answer.Worked ++ stores) ⇒ dropping (holds 0 50 ∷ holds 1 51 ∷ holds 0 52 ∷ []) None []
    ∷ drops_of (is_filled ++ posts 1 53 ++ line Step (Answer.Chosen (Body.Task 1)) ++ stores)
    ⇒ dropping (holds 0 50 ∷ holds 1 51 ∷ holds 0 52 ∷ []) None []
    ∷ drops_of (is_filled ++ posts 1 53 ++ commits (Body.Event 0) ++ stores) ⇒ dropping (holds 1 51 ∷ holds 0 52 ∷ []) None []
    ∷ drops_of (accepts 0 50 ++ posts 1 53 ++ stores) ⇒ dropping (holds 0 50 ∷ []) None []
    ∷ drops_of (is_filled ++ posts 1 53 ++ stores ++ line Cut Answer.Done ++ posts 0 54)
    ⇒ dropping (holds 1 51 ∷ holds 0 52 ∷ []) None (holds 0 50 ∷ [])
    ∷ drops_of_calls replaced ⇒ dropping (holds 0 52 ∷ holds 1 53 ∷ holds 0 54 ∷ []) (Some (holds 1 51)) (holds 0 50 ∷ holds 1 51 ∷ [])
    -- a cut after the head store: the old record is dropped and the new one not accepted
    ∷ drops_of_calls (filled ++ Post (single 1 53) ∷ Step ∷ Cut ∷ Boot ∷ []) ⇒ dropping (holds 1 51 ∷ holds 0 52 ∷ []) (Some (holds 0 50)) (holds 0 50 ∷ [])
    -- "All else, cuts and refusals too, changes nothing": the device's own answers
    ∷ from_calls (refilled ++ steps 20 ++ Cut ∷ Boot ∷ []) ⇒ holding (52 ∷ 0 ∷ 0 ∷ 0 ∷ 0 ∷ 51 ∷ []) 1 0 (holds 1 53 ∷ [])
    ∷ from_calls (transaction_calls ++ steps 18 ++ Post (single 1 51) ∷ Cut ∷ Step ∷ []) ⇒ holding after_task1 3 8 (holds 0 50 ∷ [])
    ∷ []

-- ---- N4: the body that is chosen and not yet committed, by the answers; the body whose turn it is where none is

abbrev chooses : Body → List Line
chooses b = line Step (Answer.Chosen b)

unfoldable pub begun_bodies : List (Row (Option Body))
begun_bodies =
    begun_by (accepts 0 50) ⇒ None
    ∷ begun_by (chooses (Body.Task 1)) ⇒ Some (Body.Task 1)
    ∷ begun_by (chooses (Body.Event 1) ++ accepts 0 50 ++ refused_post ++ line Step Answer.Worked ++ line Step Answer.Stored ++ line Cut Answer.Done ++ line Boot Answer.Done)
    ⇒ Some (Body.Event 1)
    ∷ begun_by (chooses (Body.Task 1) ++ commits (Body.Task 1)) ⇒ None
    ∷ begun_by (chooses (Body.Task 1) ++ commits (Body.Task 1) ++ line Step Answer.Stored ++ chooses (Body.Task 2)) ⇒ Some (Body.Task 2)
    -- the store has it, cut or no cut
    ∷ begun_of (view (left (refilled ++ Step ∷ [])).store) ⇒ Some (Body.Event 1)
    ∷ begun_of (view (left (refilled ++ Step ∷ Cut ∷ [])).store) ⇒ Some (Body.Event 1)
    ∷ begun_of (view (left (refilled ++ steps 6)).store) ⇒ None
    ∷ []

abbrev in_state : ℕ → List Record → Serial
in_state o rs = with_records (record { memory = untouched; task = 3; open_number = o; records = []; posting = (serial_start (given sample 2 3)).posting }) rs (serial_start (given sample 2 3)).posting

unfoldable pub next_bodies : List (Row Body)
next_bodies =
    next_body (in_state 0 []) ⇒ Body.Task 3
    ∷ next_body (in_state 0 (holds 1 51 ∷ holds 0 50 ∷ [])) ⇒ Body.Event 1
    ∷ next_body (in_state 8 (holds 1 51 ∷ holds 0 50 ∷ [])) ⇒ Body.Task 3
    ∷ []

-- ---- N6: the bursts that came in, by calls and answers, and the events that were committed

unfoldable pub bursts : List (Row (List (List Record)))
bursts =
    came_in (accepts 0 50 ++ accepts_three) ⇒ (single 0 50 ∷ three ∷ [])
    ∷ came_in (line (Post three) Answer.Done ++ refused_post ++ line Boot (Answer.Refused Refusal.PowerOn) ++ line Step accepted) ⇒ (three ∷ [])
    ∷ came_in (line (Post three) Answer.Done ++ line Cut Answer.Done ++ accepts 1 51) ⇒ (single 1 51 ∷ [])
    -- on its way no more: behind a cut, and once it is accepted
    ∷ came_in (line (Post three) Answer.Done ++ line Cut Answer.Done ++ line Step accepted) ⇒ ([] ∷ [])
    ∷ came_in (accepts 0 50 ++ line Step accepted) ⇒ (single 0 50 ∷ [] ∷ [])
    ∷ (joined (single 0 50 ∷ three ∷ []) ∷ []) ⇒ ((holds 0 50 ∷ three) ∷ [])
    ∷ []

-- ---- What the claims count by

-- two events are accepted, a task and an event commit
abbrev two_accepted : List Line
two_accepted = accepts 0 50 ++ accepts 1 51 ++ commits (Body.Event 0) ++ commits (Body.Task 1)

abbrev two_gone : List Gone
two_gone = was_dropped (holds 0 50) ∷ was_committed (holds 1 51) ∷ []

unfoldable pub counts : List (Row (List ℕ))
counts =
    may_meet Boot ⇒ (26 ∷ [])
    ∷ may_meet Step ⇒ (22 ∷ 23 ∷ 24 ∷ [])
    ∷ may_meet (Post (single 0 9)) ⇒ (8 ∷ 20 ∷ 21 ∷ 22 ∷ 33 ∷ [])
    ∷ may_meet Cut ⇒ []
    -- "Uncut recovery takes n + 3 steps from phase 1 and n + 2 from phase 2"; N4: "one step more"
    ∷ (recovery_steps (view opened) ∷ recovery_steps (view task_commit) ∷ recovery_steps (view event_commit) ∷ []) ⇒ (0 ∷ 6 ∷ 4 ∷ [])
    -- "Accepted is the number of records added so far, completed that of events committed"
    ∷ (count_by is_completion two_accepted ∷ []) ⇒ (1 ∷ [])
    ∷ (events_accepted sample (formatted sample 2 3) off_value (Boot ∷ three_posted) ∷ events_accepted sample (formatted sample 2 3) off_value filled ∷ []) ⇒ (3 ∷ 3 ∷ [])
    ∷ committed_events two_accepted ⇒ (0 ∷ [])
    -- N7: of the records that left the queue
    ∷ (events_of (gone_records two_gone) ++ events_of (committed_of two_gone) ++ events_of (dropped_of two_gone)) ⇒ (0 ∷ 1 ∷ 1 ∷ 0 ∷ [])
    ∷ events_of three ⇒ (1 ∷ 0 ∷ 1 ∷ [])
    ∷ []

unfoldable pub tests : List (Row Bool)
tests =
    is_in 23 (22 ∷ 23 ∷ []) ⇒ true
    ∷ is_in 25 (22 ∷ 23 ∷ []) ⇒ false
    ∷ uncut (Boot ∷ Step ∷ Post (single 0 9) ∷ []) ⇒ true
    ∷ uncut (Step ∷ Cut ∷ []) ⇒ false
    ∷ []
