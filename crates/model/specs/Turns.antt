-- N4, "A begun body has its turn": what is claimed of choosing and committing, beside demand 3, for any list of calls on a fresh store; proofs/ proves
-- it. A body taken up after a cut isn't chosen again, so the bodies of a list are counted by its answers chosen.
use Rattle.std.specs.Prelude.{ℕ, ◌≡◌, ◌≢◌, List, [], ◌∷◌, ◌++◌, eqb, length}
use Rattle.model.specs.Calls.{Call, Step, Line, history, count_by, is_commit}
use Rattle.model.specs.Demand3.{reached, next_answer}
use Rattle.model.specs.Device.{off, begun_of}
use Rattle.model.specs.Serial.{Serial, given, serial}
use Rattle.model.specs.Store.{view, format_check, format}
use Rattle.model.specs.Test.{pick}
use Rattle.model.specs.Types.{Answer, Body, None, Ok, Option, Record, Some}

-- ---- the body that is chosen and not yet committed, by the answers alone

unfoldable pub begun_after : Option Body → Answer → Option Body
begun_after g Answer.Done = g
begun_after g (Answer.Chosen b) = Some b
begun_after g Answer.Worked = g
begun_after g Answer.Stored = g
begun_after g (Answer.Committed b) = None
begun_after g (Answer.Accepted x) = g
begun_after g (Answer.Refused r) = g

unfoldable pub begun_from : Option Body → List Line → Option Body
begun_from g [] = g
begun_from g (line ∷ lines) = begun_from (begun_after g line.answered) lines

abbrev pub begun_by : List Line → Option Body
begun_by lines = begun_from None lines

-- ---- the body whose turn it is where none is begun: "if word 10 is 0 and the queue isn't empty, the event at head; otherwise the current task", said of
-- the serial run's state

unfoldable pub oldest_or : List Record → Body → Body
oldest_or [] b = b
oldest_or (oldest ∷ rest) b = Body.Event oldest.event

unfoldable pub next_body : Serial → Body
next_body z = pick (eqb z.open_number 0) (oldest_or z.records (Body.Task z.task)) (Body.Task z.task)

-- with the body g begun and the serial run in state z: one is chosen only where none is begun, and it is the one whose turn it is; only the begun
-- one is committed
abbrev pub InTurn : Serial → Option Body → Answer → Type 0
InTurn z g Answer.Done = Unit {0}
InTurn z g (Answer.Chosen b) = (g ≡ None) × (b ≡ next_body z)
InTurn z g Answer.Worked = Unit {0}
InTurn z g Answer.Stored = Unit {0}
InTurn z g (Answer.Committed b) = g ≡ Some b
InTurn z g (Answer.Accepted x) = Unit {0}
InTurn z g (Answer.Refused r) = Unit {0}

-- ---- After any list of calls on a store s, formatted with program p, L l and Q q:
pub record TakesTurns (p : List ℕ) (l q : ℕ) (s : List ℕ) (cs : List Call) : Type 0 where
  pub state : Serial
  pub ran : serial (length cs) (given p l q) (history p s off cs) ≡ Some state
  -- the store has the begun body, cut or no cut, so that a boot takes it up
  pub begun : begun_of (view (reached p s cs).store) ≡ begun_by (history p s off cs)
  -- whichever call is next
  pub turn : (c : Call) → InTurn state (begun_by (history p s off cs)) (next_answer p s cs c)

abbrev pub BodiesTakeTurns : Type 0
BodiesTakeTurns =
    (p : List ℕ) (l q : ℕ) (s : List ℕ) → format_check p l q s ≡ Ok tt → (cs : List Call) → TakesTurns p l q (format p l q s) cs

-- ---- "a boot .. takes up the begun body": where body b is chosen and not yet committed, and calls of any kind follow, cuts, posts and boots among them,
-- but no commit, then it is begun still, no other is chosen, and the next that is committed is b. So "an event accepted while a task is
-- begun now runs after that task, cut or no cut".
pub record HasItsTurn (p s : List ℕ) (cs : List Call) (b : Body) : Type 0 where
  pub begun : begun_by (history p s off cs) ≡ Some b
  pub none_chosen : (other : Body) → next_answer p s cs Step ≢ Answer.Chosen other
  pub committed : (next : Body) → next_answer p s cs Step ≡ Answer.Committed next → next ≡ b

abbrev pub BegunHasItsTurn : Type 0
BegunHasItsTurn =
    (p : List ℕ) (l q : ℕ) (s : List ℕ) → format_check p l q s ≡ Ok tt → (cs later : List Call) (b : Body)
    → begun_by (history p (format p l q s) off cs) ≡ Some b
    → count_by is_commit (history p (format p l q s) off (cs ++ later)) ≡ count_by is_commit (history p (format p l q s) off cs)
    → HasItsTurn p (format p l q s) (cs ++ later) b
