-- Document 01, refusal 7: the rules of the control words, of the log's addresses and of the waiting records, each with the word
-- that it names first and with what it needs. "A rule that needs a broken word is passed over." A check names the first broken rule of a
-- row, and that this is N2's "lowest word of any broken rule" is claimed in Claims.antt, `PlaceIsLowest`.
use Rattle.std.specs.Prelude.{ℕ, zero, suc, ◌+◌, ◌*◌, Bool, true, false, not, List, [], ◌∷◌, ◌++◌, ltb, leb, eqb}
use Rattle.model.specs.Program.{tasks, events, memory_words, transaction}
use Rattle.model.specs.Store.{Store, address, event, slot_after, empty, first_waiting, log_at, queue_at}
use Rattle.model.specs.Test.{pick, ◌and◌, ◌or◌, must, ◌then◌}
use Rattle.model.specs.Types.{Checked, Ok, Refusal}

-- A rule speaks where `asked` is true: in its phases, and where the words that it needs are sound. It is `early` if it needs no row, no
-- log pair and no record.
pub record Rule : Type 0 where
  pub word : ℕ
  pub early : Bool
  pub asked : Bool
  pub kept : Bool

abbrev early_rule : ℕ → Bool → Bool → Rule
early_rule w asked kept = record { word = w; early = true; asked = asked; kept = kept }

abbrev late_rule : ℕ → Bool → Bool → Rule
late_rule w asked kept = record { word = w; early = false; asked = asked; kept = kept }

abbrev pub broken : Rule → Bool
broken r = r.asked and not r.kept

-- where rule r is broken, 7 with its word
unfoldable pub obey : Rule → Checked
obey r = must (not (broken r)) (Refusal.Control r.word)

unfoldable pub obey_all : List Rule → Checked
obey_all [] = Ok tt
obey_all (r ∷ rs) = obey r then obey_all rs

-- f 0, .., f (n - 1)
unfoldable pub up_to : (ℕ → Rule) → ℕ → List Rule
up_to f zero = []
up_to f (suc n) = up_to f n ++ f n ∷ []

abbrev pub in_phase : Store → ℕ → Bool
in_phase v n = eqb v.phase n

abbrev pub committing : Store → Bool
committing v = in_phase v 1 or in_phase v 2

-- ---- the rules, in the order of their words

-- "8 at most 2"
unfoldable pub phase_rule : Store → Rule
phase_rule v = early_rule 8 true (leb v.phase 2)

-- "9 below T"
unfoldable pub task_rule : List ℕ → Store → Rule
task_rule p v = early_rule 9 true (ltb v.task (tasks p))

-- "in phase 0, 10 is 0 or the transaction number of task 9"
unfoldable pub open_rule : List ℕ → Store → Rule
open_rule p v =
    late_rule 10 (in_phase v 0 and (task_rule p v).kept) (eqb v.open_number 0 or eqb v.open_number (transaction p v.task))

-- "in phase 2, 10 is 0"
unfoldable pub open_serving : Store → Rule
open_serving v = early_rule 10 (in_phase v 2) (eqb v.open_number 0)

-- "In phases 1 and 2, 11 at most L"
unfoldable pub count_rule : Store → Rule
count_rule v = early_rule 11 (committing v) (leb v.count v.log_pairs)

-- "In phase 1, 12 below T"
unfoldable pub pending_task_rule : List ℕ → Store → Rule
pending_task_rule p v = early_rule 12 (in_phase v 1) (ltb v.pending (tasks p))

-- "14 and 15 at most Q"
unfoldable pub head_rule : Store → Rule
head_rule v = early_rule 14 true (leb v.head v.queue_records)

unfoldable pub tail_rule : Store → Rule
tail_rule v = early_rule 15 true (leb v.tail v.queue_records)

-- "In phase 2, 12 at most Q", which "needs no other word"
unfoldable pub pending_head_rule : Store → Rule
pending_head_rule v = early_rule 12 (in_phase v 2) (leb v.pending v.queue_records)

-- "and equals 14, or is the slot after it with the queue not empty": "the rest needs 14 and 15"
unfoldable pub pending_move_rule : Store → Rule
pending_move_rule v =
    early_rule 12 (in_phase v 2 and (head_rule v).kept and (tail_rule v).kept)
    (eqb v.pending v.head or (eqb v.pending (slot_after v.queue_records v.head) and not (empty v)))

-- N4: "word 16 at most 2"
unfoldable pub begun_rule : Store → Rule
begun_rule v = early_rule 16 true (leb v.begun 2)

-- "and in phase 0 a 2 needs a queue not empty and word 10 at 0"
unfoldable pub begun_event_rule : Store → Rule
begun_event_rule v =
    early_rule 16 (in_phase v 0 and (head_rule v).kept and (tail_rule v).kept)
    (not (eqb v.begun 2) or (not (empty v) and eqb v.open_number 0))

-- "and 13 is 0 or task 12's number"
unfoldable pub pending_open_rule : List ℕ → Store → Rule
pending_open_rule p v =
    late_rule 13 (in_phase v 1 and (pending_task_rule p v).kept) (eqb v.pending_open 0 or eqb v.pending_open (transaction p v.pending))

-- "the first n log addresses below M", pair i's
unfoldable pub address_rule : List ℕ → Store → ℕ → Rule
address_rule p v i =
    late_rule (log_at (memory_words p) + 2 * i) (committing v and (count_rule v).kept and ltb i v.count) (ltb (address v i) (memory_words p))

-- "in phase 2 from word 12": then the rules of word 12 must be kept for it to be known where the waiting records start
unfoldable pub start_kept : Store → Bool
start_kept v = not (in_phase v 2) or ((pending_head_rule v).kept and (pending_move_rule v).kept)

-- does a record wait in slot u, of records from slot h up to slot t?
unfoldable pub between : ℕ → ℕ → ℕ → Bool
between h t u = pick (leb h t) (leb h u and ltb u t) (leb h u or ltb u t)

-- "each waiting record's event below E", slot u's
unfoldable pub record_rule : List ℕ → Store → ℕ → Rule
record_rule p v u =
    late_rule (queue_at (memory_words p) v.log_pairs + 2 * u)
    ((phase_rule v).kept and (head_rule v).kept and (tail_rule v).kept and start_kept v and between (first_waiting v) v.tail u)
    (ltb (event v u) (events p))

-- ---- 7 whole, as boot has it, and its early part: "without the parts of 7 .. that need a row, .. a log pair or a record"

unfoldable pub control_rules : List ℕ → Store → List Rule
control_rules p v =
    phase_rule v
    ∷ task_rule p v
    ∷ open_rule p v
    ∷ open_serving v
    ∷ count_rule v
    ∷ pending_task_rule p v
    ∷ pending_head_rule v
    ∷ pending_move_rule v
    ∷ pending_open_rule p v
    ∷ head_rule v
    ∷ tail_rule v
    ∷ begun_rule v
    ∷ begun_event_rule v
    ∷ []

unfoldable pub rules : List ℕ → Store → List Rule
rules p v = control_rules p v ++ up_to (address_rule p v) v.log_pairs ++ up_to (record_rule p v) (v.queue_records + 1)

unfoldable pub early_of : List Rule → List Rule
early_of [] = []
early_of (r ∷ rs) = pick r.early (r ∷ early_of rs) (early_of rs)

unfoldable pub early_rules : List ℕ → Store → List Rule
early_rules p v = early_of (rules p v)
