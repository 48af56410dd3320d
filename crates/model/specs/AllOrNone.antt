-- N6, "Several events or none": what is claimed of bursts, beside demand 3, for any list of calls on a fresh store; proofs/ proves it.
-- Which bursts came in is read from calls and answers alone.
use Rattle.std.specs.Prelude.{ℕ, ◌≡◌, ◌⊎◌, true, List, [], ◌∷◌, ◌++◌, length}
use Rattle.model.specs.Burst.{is_burst}
use Rattle.model.specs.Calls.{Call, Boot, Step, Cut, Post, Line, history, unless_refused, is_accept}
use Rattle.model.specs.Demand3.{reached, recovering, steps_to_recover}
use Rattle.model.specs.Device.{off}
use Rattle.model.specs.Serial.{Serial, given, serial}
use Rattle.model.specs.Store.{view, waiting, format_check, format}
use Rattle.model.specs.Test.{pick}
use Rattle.model.specs.Types.{Answer, Body, Ok, Record, Some}

-- ---- the burst on its way: what a post answered done carried, until an answer accepted, a cut or a boot

-- with rs on its way before the call
unfoldable pub way_after : List Record → Call → Answer → List Record
way_after rs Boot a = unless_refused a (λ r. rs) []
way_after rs Step a = pick (is_accept a) [] rs
way_after rs Cut a = []
way_after rs (Post new) a = unless_refused a (λ r. rs) new

-- ---- the bursts that came in: at each answer accepted that on its way, whole

unfoldable pub came_from : List Record → List Line → List (List Record)
came_from rs [] = []
came_from rs (line ∷ lines) =
    let later = came_from (way_after rs line.called line.answered) lines in
    pick (is_accept line.answered) (rs ∷ later) later

abbrev pub came_in : List Line → List (List Record)
came_in lines = came_from [] lines

-- their records, one burst behind the other
unfoldable pub joined : List (List Record) → List Record
joined [] = []
joined (rs ∷ later) = rs ++ joined later

-- each has one to four records; so each answer accepted has a burst of its own, for none is on its way behind it
abbrev pub AllBursts : List (List Record) → Type 0
AllBursts [] = Unit {0}
AllBursts (rs ∷ later) = (is_burst rs ≡ true) × AllBursts later

-- ---- the records that left the queue: the event of each was committed, or N7: it was dropped

pub data Gone : Type 0 where
  was_committed was_dropped : Record → Gone

unfoldable pub gone_records : List Gone → List Record
gone_records [] = []
gone_records (was_committed first ∷ later) = first ∷ gone_records later
gone_records (was_dropped first ∷ later) = first ∷ gone_records later

unfoldable pub committed_of : List Gone → List Record
committed_of [] = []
committed_of (was_committed first ∷ later) = first ∷ committed_of later
committed_of (was_dropped first ∷ later) = committed_of later

unfoldable pub dropped_of : List Gone → List Record
dropped_of [] = []
dropped_of (was_committed first ∷ later) = dropped_of later
dropped_of (was_dropped first ∷ later) = first ∷ dropped_of later

-- ---- the events that were committed, and those of records

unfoldable pub committed_event : Answer → List ℕ
committed_event Answer.Done = []
committed_event (Answer.Chosen b) = []
committed_event Answer.Worked = []
committed_event Answer.Stored = []
committed_event (Answer.Committed (Body.Task t)) = []
committed_event (Answer.Committed (Body.Event e)) = e ∷ []
committed_event (Answer.Accepted x) = []
committed_event (Answer.Refused r) = []

unfoldable pub committed_events : List Line → List ℕ
committed_events [] = []
committed_events (line ∷ lines) = committed_event line.answered ++ committed_events lines

unfoldable pub events_of : List Record → List ℕ
events_of [] = []
events_of (first ∷ rs) = first.event ∷ events_of rs

-- ---- After any list of calls on a store s, formatted with program p, L l and Q q:
pub record ComeWhole (p : List ℕ) (l q : ℕ) (s : List ℕ) (cs : List Call) : Type 0 where
  pub bursts : AllBursts (came_in (history p s off cs))
  -- the records of the bursts that came in, and no others, in order and none between, are those that left and behind them those that wait
  pub gone : List Gone
  pub in_order : joined (came_in (history p s off cs)) ≡ gone_records gone ++ waiting (view (reached p s cs).store)
  -- of those that left, the committed ones have the events of the answers, and the dropped ones are those that the serial run dropped
  pub committed : events_of (committed_of gone) ≡ committed_events (history p s off cs)
  pub state : Serial
  pub ran : serial (length cs) (given p l q) (history p s off cs) ≡ Some state
  pub dropped : dropped_of gone ≡ state.posting.dropped
  -- and that wait after recovery
  pub recovered : waiting (view (recovering p s cs (steps_to_recover p s cs))) ≡ waiting (view (reached p s cs).store)

abbrev pub BurstsComeWhole : Type 0
BurstsComeWhole =
    (p : List ℕ) (l q : ℕ) (s : List ℕ) → format_check p l q s ≡ Ok tt → (cs : List Call) → ComeWhole p l q (format p l q s) cs

-- ---- Of one burst: with rs on its way, and whatever calls and answers follow, it comes in next and whole, or what comes in is as if it hadn't been
-- posted. (One that drops a record may have dropped it and then be cut off.)
abbrev pub AllOrNone : Type 0
AllOrNone =
    (rs : List Record) (lines : List Line)
    → ((later : List (List Record)) × (came_from rs lines ≡ rs ∷ later)) ⊎ (came_from rs lines ≡ came_from [] lines)
