-- Demand 3: "for any list of boots, steps, posts and cuts, refused ones among them, on a store freshly formatted with a checked program, the
-- device off at first". What is claimed of such a list, as statements; proofs/ proves each. docs/CLAIMS.md says which sentence is which.
use Rattle.std.specs.Prelude.{ℕ, suc, ◌+◌, ◌≤◌, ◌<◌, ◌≡◌, ◌≢◌, Bool, true, false, List, [], ◌∷◌, ◌++◌, eqb, length}
use Rattle.model.specs.Answer.{refusal}
use Rattle.model.specs.Calls.{Call, Boot, Step, Cut, Post, Line, Now, call, history, after_calls, count_by, events_accepted, steps, recovered, recovery}
use Rattle.model.specs.Device.{off}
use Rattle.model.specs.Program.{entry}
use Rattle.model.specs.Serial.{Serial, Formatting, given, Walked, went, served, lost, walk_body, tell, serial, serial_start}
use Rattle.model.specs.Store.{Store, view, waiting, format_check, format}
use Rattle.model.specs.Test.{pick, ◌or◌}
use Rattle.model.specs.Types.{Answer, Body, None, Ok, Option, Record, Some}

-- ---- The refusals that a list of calls on a fresh store can meet

unfoldable pub is_in : ℕ → List ℕ → Bool
is_in n [] = false
is_in n (first ∷ rest) = eqb n first or is_in n rest

unfoldable pub may_meet : Call → List ℕ
may_meet Boot = 26 ∷ []
may_meet Step = 22 ∷ 23 ∷ 24 ∷ []
may_meet (Post rs) = 8 ∷ 20 ∷ 21 ∷ 22 ∷ 33 ∷ []
may_meet Cut = []

abbrev pub Expected : Call → Answer → Type 0
Expected c Answer.Done = Unit {0}
Expected c (Answer.Chosen b) = Unit {0}
Expected c Answer.Worked = Unit {0}
Expected c Answer.Stored = Unit {0}
Expected c (Answer.Committed b) = Unit {0}
Expected c (Answer.Accepted x) = Unit {0}
Expected c (Answer.Refused r) = is_in (refusal r).number (may_meet c) ≡ true

-- ---- Demand 3

-- "the memory, current task, open number and waiting events that an uncut recovery leaves are exactly those of document 01's
-- serial run"
pub record Left (v : Store) (z : Serial) : Type 0 where
  pub memory : v.memory ≡ z.memory
  pub task : v.task ≡ z.task
  pub open_number : v.open_number ≡ z.open_number
  pub records : waiting v ≡ z.records

-- "Uncut recovery takes n + 3 steps from phase 1 and n + 2 from phase 2"; N4: "recovery takes one step more"
unfoldable pub recovery_steps : Store → ℕ
recovery_steps v = pick (eqb v.phase 1) (v.count + 4) (pick (eqb v.phase 2) (v.count + 3) 0)

-- with any number of steps allowed that suffices, recovery isn't refused, ends after just so many, and leaves what z says
pub record Recovers (p s : List ℕ) (z : Serial) (allowed : ℕ) : Type 0 where
  pub store : List ℕ
  pub ends : recovery p allowed s ≡ recovered (recovery_steps (view s)) store
  pub left : Left (view store) z

-- "each body run is the answered one and ends, each address below M; at an event a record is there and the open number is 0":
-- what the serial run in state z finds when body b is to be run (a body whose address isn't below M doesn't end)
pub record RunsTask (p : List ℕ) (z : Serial) (fuel t : ℕ) : Type 0 where
  pub current : t ≡ z.task
  pub next : ℕ
  pub memory : List ℕ
  pub ends : walk_body fuel p (Body.Task t) 0 z.memory ≡ went next memory

pub record RunsEvent (p : List ℕ) (z : Serial) (fuel e : ℕ) : Type 0 where
  pub oldest : Record
  pub rest : List Record
  pub there : z.records ≡ oldest ∷ rest
  pub named : oldest.event ≡ e
  pub closed : z.open_number ≡ 0
  pub memory : List ℕ
  pub ends : walk_body fuel p (Body.Event e) oldest.datum z.memory ≡ served memory

abbrev pub RunsBody : List ℕ → Serial → ℕ → Body → Type 0
RunsBody p z fuel (Body.Task t) = RunsTask p z fuel t
RunsBody p z fuel (Body.Event e) = RunsEvent p z fuel e

-- "Accepted is the number of records added so far, completed that of events committed."
unfoldable pub is_completion : Answer → Bool
is_completion Answer.Done = false
is_completion (Answer.Chosen b) = false
is_completion Answer.Worked = false
is_completion Answer.Stored = false
is_completion (Answer.Committed (Body.Task t)) = false
is_completion (Answer.Committed (Body.Event e)) = true
is_completion (Answer.Accepted x) = false
is_completion (Answer.Refused r) = false

-- the store and the device after calls on a store s, "the device off at first"
abbrev pub reached : List ℕ → List ℕ → List Call → Now
reached p s cs = after_calls p s off cs

-- the answer of one call more
abbrev pub next_answer : List ℕ → List ℕ → List Call → Call → Answer
next_answer p s cs c = (call p (reached p s cs).store (reached p s cs).device c).answer

-- the steps that recovery then takes
abbrev pub steps_to_recover : List ℕ → List ℕ → List Call → ℕ
steps_to_recover p s cs = recovery_steps (view (reached p s cs).store)

-- After any list of calls on a store s, formatted with program p, L l and Q q, with the serial state of the calls and their answers:
pub record AsSerialRun (p : List ℕ) (l q : ℕ) (s : List ℕ) (cs : List Call) : Type 0 where
  pub state : Serial
  pub ran : (fuel : ℕ) → length cs ≤ fuel → serial fuel (given p l q) (history p s off cs) ≡ Some state
  pub recovers : (allowed : ℕ) → steps_to_recover p s cs ≤ allowed → Recovers p (reached p s cs).store state allowed
  -- "Its records are the store's waiting ones (event, data), in order, before recovery too."
  pub waits : waiting (view (reached p s cs).store) ≡ state.records
  -- N7: "Accepted now equals completed plus waiting plus dropped". A cut after the head store has dropped a record that no answer tells.
  pub balance : events_accepted p s off cs
      ≡ count_by is_completion (history p s off cs) + length state.records + length state.posting.dropped
  -- "The accepting answer gains the dropped record or None": the one that was dropped for that post
  pub dropped : (x : Option Record) → next_answer p s cs Step ≡ Answer.Accepted x → x ≡ state.posting.dropped_for
  -- whichever call is next: the refusals that it may meet, and the body that it commits
  pub refusals : (c : Call) → Expected c (next_answer p s cs c)
  pub bodies : (b : Body) → next_answer p s cs Step ≡ Answer.Committed b
      → RunsBody p state (suc (length cs)) b

abbrev pub Demand3 : Type 0
Demand3 =
    (p : List ℕ) (l q : ℕ) (s : List ℕ) → format_check p l q s ≡ Ok tt → (cs : List Call) → AsSerialRun p l q (format p l q s) cs

-- ---- The serial run by itself

-- It determines its state: whatever the fuel, if the run comes to an end, it comes to the same.
abbrev pub SerialDetermined : Type 0
SerialDetermined =
    (fuel fuel' : ℕ) (g : Formatting) (z z' : Serial) (lines : List Line) → serial fuel g lines ≡ Some z → serial fuel' g lines ≡ Some z' → z ≡ z'

-- Each task is the one that the task before it named, the first the entry task: the tasks whose commit store was made, and
-- behind them the current one, are the entry task and behind it the tasks that these named at GO.
unfoldable pub committed_task : Answer → List ℕ
committed_task Answer.Done = []
committed_task (Answer.Chosen b) = []
committed_task Answer.Worked = []
committed_task Answer.Stored = []
committed_task (Answer.Committed (Body.Task t)) = t ∷ []
committed_task (Answer.Committed (Body.Event e)) = []
committed_task (Answer.Accepted x) = []
committed_task (Answer.Refused r) = []

unfoldable pub committed_tasks : List Line → List ℕ
committed_tasks [] = []
committed_tasks (line ∷ lines) = committed_task line.answered ++ committed_tasks lines

-- the task that a body's run names
unfoldable pub named_at_end : Walked → List ℕ
named_at_end (went k m) = k ∷ []
named_at_end (served m) = []
named_at_end lost = []

-- the tasks that tasks name, each run on the memory m
unfoldable pub named_by : ℕ → List ℕ → List ℕ → List ℕ → List ℕ
named_by fuel p m [] = []
named_by fuel p m (t ∷ ts) = named_at_end (walk_body fuel p (Body.Task t) 0 m) ++ named_by fuel p m ts

-- along the serial run
unfoldable pub from_state : Option Serial → (Serial → List ℕ) → List ℕ
from_state None tasks = []
from_state (Some z) tasks = tasks z

unfoldable pub named_tasks : ℕ → Formatting → Serial → List Line → List ℕ
named_tasks fuel g z [] = []
named_tasks fuel g z (line ∷ lines) =
    named_by fuel g.program z.memory (committed_task line.answered)
    ++ from_state (tell fuel g z line.called line.answered) (λ z'. named_tasks fuel g z' lines)

abbrev pub TasksFollow : Type 0
TasksFollow =
    (fuel : ℕ) (g : Formatting) (lines : List Line) (z : Serial) → serial fuel g lines ≡ Some z
    → committed_tasks lines ++ (z.task ∷ []) ≡ entry g.program ∷ named_tasks fuel g (serial_start g) lines

-- ---- What a bench sees that makes the calls, recovery among them, and reads words and answers

-- the store after these calls, then a cut, a boot and n steps
abbrev pub recovering : List ℕ → List ℕ → List Call → ℕ → List ℕ
recovering p s cs n = (reached p s (cs ++ (Cut ∷ Boot ∷ steps n))).store

-- every call of the list was answered as that call may be
unfoldable pub AllExpected : List Line → Type 0
AllExpected [] = Unit {0}
AllExpected (line ∷ lines) = Expected line.called line.answered × AllExpected lines

pub record Observed (p : List ℕ) (l q : ℕ) (s : List ℕ) (cs : List Call) : Type 0 where
  pub state : Serial
  pub ran : serial (length cs) (given p l q) (history p s off cs) ≡ Some state
  pub tasks : committed_tasks (history p s off cs) ++ (state.task ∷ [])
      ≡ entry p ∷ named_tasks (length cs) (given p l q) (serial_start (given p l q)) (history p s off cs)
  pub answers : AllExpected (history p s off cs)
  -- "recovery .. is a cut, a boot, then steps while the phase isn't 0": so many, and then it has left what the serial run has
  pub goes_on : (n : ℕ) → n < steps_to_recover p s cs → (view (recovering p s cs n)).phase ≢ 0
  pub ends : (view (recovering p s cs (steps_to_recover p s cs))).phase ≡ 0
  pub left : Left (view (recovering p s cs (steps_to_recover p s cs))) state
  -- accepted is completed plus waiting plus dropped
  pub balance : events_accepted p s off cs
      ≡ count_by is_completion (history p s off cs) + length (waiting (view (reached p s cs).store)) + length state.posting.dropped
  pub dropped : (x : Option Record) → next_answer p s cs Step ≡ Answer.Accepted x → x ≡ state.posting.dropped_for
  -- "for an event that of the oldest record"
  pub oldest : (e : ℕ) → next_answer p s cs Step ≡ Answer.Committed (Body.Event e)
      → (first : Record) × (rest : List Record) × (waiting (view (reached p s cs).store) ≡ first ∷ rest) × (first.event ≡ e)

abbrev pub ObservedByCalls : Type 0
ObservedByCalls =
    (p : List ℕ) (l q : ℕ) (s : List ℕ) → format_check p l q s ≡ Ok tt → (cs : List Call) → Observed p l q (format p l q s) cs
