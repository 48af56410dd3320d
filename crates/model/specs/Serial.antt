-- Document 01, "The serial run": what the bodies whose commit store was made do without cuts, log or store.
-- "The serial run has the program and reads the calls with their answers, never the store": the program stands with what else formatting was given.
-- A body that loops has no end, so a body is run for a number of instructions, the fuel; Claims.antt says that the number of
-- calls suffices, and that more fuel changes nothing. The run stops, `none`, where one of the things claimed with it fails:
-- "each body run is the answered one and ends, each address below M; at an event a record is there and the open number is 0."
-- It stops, too, at an event accepted before any post, and where a record is to be dropped and there is none.
use Rattle.std.specs.Prelude.{ℕ, zero, suc, ◌+◌, Bool, false, List, [], ◌∷◌, ◌++◌, ltb, eqb, length, set, replicate}
use Rattle.model.specs.Calls.{Call, Boot, Step, Cut, Post, Line}
use Rattle.model.specs.Program.{entry, memory_words, transaction, instructions, body_number, effect_at, new_open, first_registers, word}
use Rattle.model.specs.Test.{pick, ◌and◌}
use Rattle.model.specs.Types.{Answer, Body, Effect, None, Option, Record, Some}

-- What the run keeps of posts and of the records that were dropped for them.
pub record PostState : Type 0 where
  -- what the latest post with the answer done carried; nothing before any
  pub posted : List Record
  -- N7: "the last call .. that wasn't refused is a post that found Q records"
  pub found_full : Bool
  -- what was dropped for the latest post with the answer done, and all that were dropped, in order
  pub dropped_for : Option Record
  pub dropped : List Record

pub record Serial : Type 0 where
  pub memory : List ℕ
  pub task : ℕ
  pub open_number : ℕ
  pub records : List Record
  pub posting : PostState

-- What formatting was given: the serial run has this, and no more of the store.
pub record Formatting : Type 0 where
  pub program : List ℕ
  pub log_pairs : ℕ
  pub queue_records : ℕ

abbrev pub given : List ℕ → ℕ → ℕ → Formatting
given p l q = record { program = p; log_pairs = l; queue_records = q }

-- "It starts with memory 0, the entry task as current task, open number 0 and no records."
unfoldable pub serial_start : Formatting → Serial
serial_start g =
    record {
      memory = replicate (memory_words g.program) 0;
      task = entry g.program;
      open_number = 0;
      records = [];
      posting = record { posted = []; found_full = false; dropped_for = None; dropped = [] };
    }

-- ---- "instructions run from the first, on memory without a log, to DONE or to GO"

-- how a body's run ends: at GO with the task named, at DONE, or not soundly within the fuel
pub data Walked : Type 0 where
  went : ℕ → List ℕ → Walked
  served : List ℕ → Walked
  lost : Walked

-- one instruction on registers r and memory m, at place j; `go` runs the rest
unfoldable pub advance : List ℕ → ℕ → List ℕ → List ℕ → (ℕ → List ℕ → List ℕ → Walked) → Effect → Walked
advance p j r m go (Effect.Compute a x) = go (j + 1) (set r a x) m
advance p j r m go (Effect.Jump k) = go k r m
advance p j r m go (Effect.Load a y) = pick (ltb y (memory_words p)) (go (j + 1) (set r a (word m y)) m) lost
advance p j r m go (Effect.Save y x) = pick (ltb y (memory_words p)) (go (j + 1) r (set m y x)) lost
advance p j r m go (Effect.EndTask k) = went k m
advance p j r m go Effect.EndEvent = served m
advance p j r m go Effect.Unknown = lost

-- body i, with this much fuel
unfoldable pub walk : ℕ → List ℕ → ℕ → ℕ → List ℕ → List ℕ → Walked
walk zero p i j r m = lost
walk (suc fuel) p i j r m =
    pick (ltb j (instructions p i)) (advance p j r m (λ j' r' m'. walk fuel p i j' r' m') (effect_at p i j r)) lost

-- "Registers are as at choosing"
unfoldable pub walk_body : ℕ → List ℕ → Body → ℕ → List ℕ → Walked
walk_body fuel p b x m = walk fuel p (body_number p b) 0 (first_registers x) m

-- ---- The run

-- of posts, after a call that isn't refused and is no post
unfoldable pub no_post : PostState → PostState
no_post posting = record { posted = posting.posted; found_full = false; dropped_for = posting.dropped_for; dropped = posting.dropped }

-- "to GO, which sets current task and open number"
unfoldable pub after_task : List ℕ → Serial → Walked → Option Serial
after_task p z (went k m) =
    Some
    (record {
      memory = m;
      task = k;
      open_number = new_open (transaction p z.task) (transaction p k);
      records = z.records;
      posting = no_post z.posting;
    })
after_task p z (served m) = None
after_task p z lost = None

unfoldable pub after_event : Serial → List Record → Walked → Option Serial
after_event z rest (went k m) = None
after_event z rest (served m) =
    Some (record { memory = m; task = z.task; open_number = z.open_number; records = rest; posting = no_post z.posting })
after_event z rest lost = None

-- "for an event that of the oldest record, which goes"
unfoldable pub serve_oldest : ℕ → List ℕ → Serial → ℕ → List Record → Option Serial
serve_oldest fuel p z e [] = None
serve_oldest fuel p z e (oldest ∷ rest) =
    pick (eqb oldest.event e and eqb z.open_number 0)
    (after_event z rest (walk_body fuel p (Body.Event e) oldest.datum z.memory)) None

-- "The answer committed runs a body: for a task the current one"
unfoldable pub run_body : ℕ → List ℕ → Serial → Body → Option Serial
run_body fuel p z (Body.Task t) = pick (eqb t z.task) (after_task p z (walk_body fuel p (Body.Task t) 0 z.memory)) None
run_body fuel p z (Body.Event e) = serve_oldest fuel p z e z.records

-- other records, and another state of posts
unfoldable pub with_records : Serial → List Record → PostState → Serial
with_records z rs posting =
    record {
      memory = z.memory;
      task = z.task;
      open_number = z.open_number;
      records = rs;
      posting = posting;
    }

-- "All else .. changes nothing"
unfoldable pub unchanged : Serial → Serial
unchanged z = with_records z z.records (no_post z.posting)

-- a post that was answered done, where the queue takes q records at most
unfoldable pub after_post : ℕ → Serial → List Record → Serial
after_post q z rs =
    with_records z z.records
    (record { posted = rs; found_full = eqb (length z.records) q; dropped_for = None; dropped = z.posting.dropped })

unfoldable pub after_done : ℕ → Serial → Call → Serial
after_done q z Boot = unchanged z
after_done q z Step = unchanged z
after_done q z Cut = unchanged z
after_done q z (Post rs) = after_post q z rs

-- "The answer accepted adds what the latest post with the answer done carried"
unfoldable pub accept : Serial → List Record → Option Serial
accept z [] = None
accept z (first ∷ rs) = Some (with_records z (z.records ++ first ∷ rs) (no_post z.posting))

-- with its oldest record dropped, and these left
unfoldable pub after_drop : Serial → Record → List Record → Serial
after_drop z oldest rest =
    with_records z rest
    (record {
      posted = z.posting.posted;
      found_full = false;
      dropped_for = Some oldest;
      dropped = z.posting.dropped ++ oldest ∷ [];
    })

unfoldable pub drop_oldest : Serial → List Record → Option Serial
drop_oldest z [] = None
drop_oldest z (oldest ∷ rest) = Some (after_drop z oldest rest)

-- N7: "drops its oldest record at a stored answer when the last call before it that wasn't refused is a post that found Q records"
unfoldable pub after_stored : Serial → Option Serial
after_stored z = pick z.posting.found_full (drop_oldest z z.records) (Some (unchanged z))

-- "All else, cuts and refusals too, changes nothing."
unfoldable pub tell : ℕ → Formatting → Serial → Call → Answer → Option Serial
tell fuel g z c Answer.Done = Some (after_done g.queue_records z c)
tell fuel g z c (Answer.Chosen b) = Some (unchanged z)
tell fuel g z c Answer.Worked = Some (unchanged z)
tell fuel g z c Answer.Stored = after_stored z
tell fuel g z c (Answer.Committed b) = run_body fuel g.program z b
tell fuel g z c (Answer.Accepted dropped) = accept z z.posting.posted
tell fuel g z c (Answer.Refused why) = Some z

unfoldable pub and_then : Option Serial → (Serial → Option Serial) → Option Serial
and_then None next = None
and_then (Some z) next = next z

unfoldable pub serial_from : ℕ → Formatting → Serial → List Line → Option Serial
serial_from fuel g z [] = Some z
serial_from fuel g z (line ∷ lines) = and_then (tell fuel g z line.called line.answered) (λ z'. serial_from fuel g z' lines)

unfoldable pub serial : ℕ → Formatting → List Line → Option Serial
serial fuel g lines = serial_from fuel g (serial_start g) lines
