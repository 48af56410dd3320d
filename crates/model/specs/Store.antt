-- Document 01, "Store words": where the parts of a store lie, what each holds, and what one store to it is; formatting.
use Rattle.std.specs.Prelude.{ℕ, zero, suc, ◌+◌, ◌-◌, ◌*◌, Bool, List, [], ◌∷◌, ◌++◌, leb, eqb, length, take, drop, set, replicate}
use Rattle.model.specs.Check.{check}
use Rattle.model.specs.Program.{word, memory_words, entry}
use Rattle.model.specs.Test.{pick, ◌and◌, must, ◌then◌}
use Rattle.model.specs.Types.{Checked, Err, None, Ok, Option, Record, Refusal, Some}

-- ---- "Contents first. Words 0 to 7: mark .., M, log pairs L (1 to 64), queue records Q (1 to 32), then the starts of control (8),
-- memory .., log .., queue .. the ring has Q + 1 slots of two words (event, data)"; N4: "Control gets word 16", "The start of every later
-- region rises by one, the length is 19 + M + 2L + 2Q .., and the mark is hex C0A2".

unfoldable pub store_mark : ℕ
store_mark = 0xC0A2

abbrev pub control_at : ℕ
control_at = 8

abbrev pub memory_at : ℕ
memory_at = 17

abbrev pub log_at : ℕ → ℕ
log_at m = memory_at + m

abbrev pub queue_at : ℕ → ℕ → ℕ
queue_at m l = log_at m + 2 * l

abbrev pub store_length : ℕ → ℕ → ℕ → ℕ
store_length m l q = queue_at m l + 2 * (q + 1)

unfoldable pub store_contents : ℕ → ℕ → ℕ → List ℕ
store_contents m l q = store_mark ∷ m ∷ l ∷ q ∷ control_at ∷ memory_at ∷ log_at m ∷ queue_at m l ∷ []

-- ---- The store by its parts, as a step reads it
-- "Control: 8 phase (0 running, 1 task commit, 2 event commit); 9 current task; 10 open transaction (0 none); 11 count n; 12
-- pending next task, or in phase 2 pending head; 13 pending open; 14 head; 15 tail." N4: "word 16: 0 nothing begun, 1 task, 2 event"
pub record Store : Type 0 where
  pub log_pairs : ℕ
  pub queue_records : ℕ
  pub phase : ℕ
  pub task : ℕ
  pub open_number : ℕ
  pub count : ℕ
  pub pending : ℕ
  pub pending_open : ℕ
  pub head : ℕ
  pub tail : ℕ
  pub begun : ℕ
  pub memory : List ℕ
  pub log : List ℕ
  pub queue : List ℕ

abbrev pub view : List ℕ → Store
view s =
    record {
      log_pairs = word s 2;
      queue_records = word s 3;
      phase = word s 8;
      task = word s 9;
      open_number = word s 10;
      count = word s 11;
      pending = word s 12;
      pending_open = word s 13;
      head = word s 14;
      tail = word s 15;
      begun = word s 16;
      memory = take (word s 1) (drop memory_at s);
      log = take (2 * word s 2) (drop (log_at (word s 1)) s);
      queue = take (2 * (word s 3 + 1)) (drop (queue_at (word s 1) (word s 2)) s);
    }

-- a log pair's address and value; a slot's event and data
abbrev pub address : Store → ℕ → ℕ
address v i = word v.log (2 * i)

abbrev pub value : Store → ℕ → ℕ
value v i = word v.log (2 * i + 1)

abbrev pub event : Store → ℕ → ℕ
event v u = word v.queue (2 * u)

abbrev pub datum : Store → ℕ → ℕ
datum v u = word v.queue (2 * u + 1)

-- ---- "A step makes at most one store": none, or one word with its new value
pub data Word : Type 0 where
  Phase Task Open Count Pending PendingOpen Head Tail Begun : Word
  Memory Address Value Event Datum : ℕ → Word

unfoldable pub index : List ℕ → Word → ℕ
index s Phase = 8
index s Task = 9
index s Open = 10
index s Count = 11
index s Pending = 12
index s PendingOpen = 13
index s Head = 14
index s Tail = 15
index s Begun = 16
index s (Memory y) = memory_at + y
index s (Address i) = log_at (word s 1) + 2 * i
index s (Value i) = log_at (word s 1) + (2 * i + 1)
index s (Event u) = queue_at (word s 1) (word s 2) + 2 * u
index s (Datum u) = queue_at (word s 1) (word s 2) + (2 * u + 1)

pub data Write : Type 0 where
  none : Write
  to : Word → ℕ → Write

unfoldable pub settled : List ℕ → Write → List ℕ
settled s none = s
settled s (to w x) = set s (index s w) x

-- which word that is
unfoldable pub stored_word : List ℕ → Write → Option ℕ
stored_word s none = None
stored_word s (to w x) = Some (index s w)

-- ---- The log: "the search of the log ends with the pair found, or with none". Of k pairs from pair i on, the first with this
-- address.
unfoldable pub find_from : List ℕ → ℕ → ℕ → ℕ → Option ℕ
find_from log y i zero = None
find_from log y i (suc k) = pick (eqb (word log (2 * i)) y) (Some i) (find_from log y (suc i) k)

unfoldable pub find : List ℕ → ℕ → ℕ → Option ℕ
find log n y = find_from log y 0 n

-- ---- The ring: "Empty means head equals tail; full means the slot after tail is head." Then there is room for no record.

-- the slot after slot u, of the slots 0 to q
unfoldable pub slot_after : ℕ → ℕ → ℕ
slot_after q u = pick (eqb u q) 0 (u + 1)

-- the slot i places after slot u
unfoldable pub forward : ℕ → ℕ → ℕ → ℕ
forward q u zero = u
forward q u (suc i) = forward q (slot_after q u) i

-- the ring's word i places after the first word of slot u: event, data, event of the slot after it, ..
unfoldable pub ring_word : ℕ → ℕ → ℕ → Word
ring_word q u zero = Event u
ring_word q u (suc zero) = Datum u
ring_word q u (suc (suc i)) = ring_word q (slot_after q u) i

abbrev pub empty : Store → Bool
empty v = eqb v.head v.tail

abbrev pub full : Store → Bool
full v = eqb (slot_after v.queue_records v.tail) v.head

-- "The waiting records run to tail from head, in phase 2 from word 12."
unfoldable pub first_waiting : Store → ℕ
first_waiting v = pick (eqb v.phase 2) v.pending v.head

-- how many slots lie from h up to t, of the slots 0 to q
unfoldable pub distance : ℕ → ℕ → ℕ → ℕ
distance q h t = pick (leb h t) (t - h) (t + (q + 1) - h)

-- how many records more the ring takes
unfoldable pub room : Store → ℕ
room v = v.queue_records - distance v.queue_records v.head v.tail

unfoldable pub slot : List ℕ → ℕ → Record
slot queue u = record { event = word queue (2 * u); datum = word queue (2 * u + 1) }

-- k records from slot u on
unfoldable pub records_from : List ℕ → ℕ → ℕ → ℕ → List Record
records_from queue q u zero = []
records_from queue q u (suc k) = slot queue u ∷ records_from queue q (slot_after q u) k

unfoldable pub waiting : Store → List Record
waiting v =
    let h = first_waiting v in
    records_from v.queue v.queue_records h (distance v.queue_records h v.tail)

-- ---- "Formatting sets the contents, word 9 to the entry task and all else to 0."

unfoldable pub formatted : List ℕ → ℕ → ℕ → List ℕ
formatted p l q =
    let m = memory_words p in
    store_contents m l q ++ 0 ∷ entry p ∷ replicate (store_length m l q - 10) 0

-- "9: L or Q outside limits, when formatting."
unfoldable pub sizes_rule : ℕ → ℕ → Bool
sizes_rule l q = leb 1 l and leb l 64 and leb 1 q and leb q 32

-- "format 1 to 5, 9, 6 (only the length)"
unfoldable pub format_check : List ℕ → ℕ → ℕ → List ℕ → Checked
format_check p l q s =
    check p
    then must (sizes_rule l q) Refusal.StoreSize
    then must (eqb (length s) (store_length (memory_words p) l q)) Refusal.StoreContents

-- the store after the call
unfoldable pub format_store : Checked → List ℕ → List ℕ → List ℕ
format_store (Ok _) s new = new
format_store (Err r) s new = s

unfoldable pub format : List ℕ → ℕ → ℕ → List ℕ → List ℕ
format p l q s = format_store (format_check p l q s) s (formatted p l q)

-- "6: store contents or length wrong, or M unlike the program's."
unfoldable pub store_rule : List ℕ → List ℕ → Checked
store_rule p s =
    let m = memory_words p in
    let l = word s 2 in
    let q = word s 3 in
    must (leb 8 (length s)) Refusal.StoreContents
    then must (eqb (word s 0) store_mark) Refusal.StoreContents
    then must (eqb (word s 1) m) Refusal.StoreContents
    then must (sizes_rule l q) Refusal.StoreContents
    then must (eqb (word s 4) control_at) Refusal.StoreContents
    then must (eqb (word s 5) memory_at) Refusal.StoreContents
    then must (eqb (word s 6) (log_at m)) Refusal.StoreContents
    then must (eqb (word s 7) (queue_at m l)) Refusal.StoreContents
    then must (eqb (length s) (store_length m l q)) Refusal.StoreContents
