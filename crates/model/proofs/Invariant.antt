-- What holds of store, device and serial run after every call: of a device that is off (`Off`), of one that is on (`On`). Each predicate is
-- a record over just the parts that it speaks of, so that a proof of it stands as it is after a store to another part. "The first c
-- stores of this list are made" is one predicate, `First`, for every row of stores: a commit's and a handler's. Assumes nothing.
use Prim.Native.Nat.{ℕ, ◌+◌, ◌-◌, ◌*◌, ◌≤◌, ◌<◌, min}
use mathlib.Core.Path.{◌≡◌}
use mathlib.Core.Logic.{◌⊎◌, ◌≢◌}
use mathlib.Core.Bool.{Bool, true, false}
use mathlib.Core.List.{List}
use lib.ListN.{length}
use Rattle.model.proofs.FirstStores.{First}
use Rattle.model.proofs.LogLaws.{addr, overlay, Distinct}
use Rattle.model.proofs.RingLaws.{RecordsMade}
use Rattle.model.specs.Accepted.{Known, MayDrop}
use Rattle.model.specs.Burst.{carried, no_burst}
use Rattle.model.specs.Device.{off, record_stores, task_stores, event_stores, task_last_stores, event_last_stores, kind_of}
use Rattle.model.specs.Program.{first_registers, word, tasks, events, memory_words, instructions, transaction, body_number, effect_at}
use Rattle.model.specs.Serial.{Serial, PostState, walk}
use Rattle.model.specs.Store.{Store, slot_after, first_waiting, records_from, distance, Phase, Task, Open, Count, Pending, PendingOpen, Head, Tail, Begun, Memory, Address, Value, Event, Datum, Write, none, to, slot}
use Rattle.model.specs.Types.{Body, Device, Dropping, Effect, Free, Half, Handler, None, Option, Place, Record, Replacing, Resting, Run, Some, Storing}

-- ---- the control words, but tail, which is the handler's

pub record Controls : Type 0 where
  pub phase : ℕ
  pub task : ℕ
  pub open_number : ℕ
  pub count : ℕ
  pub pending : ℕ
  pub pending_open : ℕ
  pub head : ℕ
  pub begun : ℕ

abbrev pub controls : Store → Controls
controls v =
    record {
      phase = v.phase;
      task = v.task;
      open_number = v.open_number;
      count = v.count;
      pending = v.pending;
      pending_open = v.pending_open;
      head = v.head;
      begun = v.begun;
    }

-- what a write stores to a control word stands there
abbrev pub Has : Controls → Write → Type 0
Has k none = ⊥
Has k (to Phase x) = k.phase ≡ x
Has k (to Task x) = k.task ≡ x
Has k (to Open x) = k.open_number ≡ x
Has k (to Count x) = k.count ≡ x
Has k (to Pending x) = k.pending ≡ x
Has k (to PendingOpen x) = k.pending_open ≡ x
Has k (to Head x) = k.head ≡ x
Has k (to Tail x) = ⊥
Has k (to Begun x) = k.begun ≡ x
Has k (to (Memory a) x) = ⊥
Has k (to (Address j) x) = ⊥
Has k (to (Value j) x) = ⊥
Has k (to (Event i) x) = ⊥
Has k (to (Datum i) x) = ⊥

-- ---- parts of a store

-- the parts have their lengths
pub record Lengths (p : List ℕ) (v : Store) : Type 0 where
  pub memory_length : length v.memory ≡ memory_words p
  pub log_length : length v.log ≡ 2 * v.log_pairs
  pub queue_length : length v.queue ≡ 2 * (v.queue_records + 1)

-- the serial run's task and open number are a task's
pub record Tasked (p : List ℕ) (task open' : ℕ) : Type 0 where
  pub task_in : task < tasks p
  pub open_in : (open' ≡ 0) ⊎ (open' ≡ transaction p task)

-- the waiting records, from slot f up to slot t of the slots 0 to q, are the serial run's
pub record Waiting (p : List ℕ) (queue : List ℕ) (q f t : ℕ) (records : List Record) : Type 0 where
  pub first_in : f ≤ q
  pub tail_in : t ≤ q
  pub same : records_from queue q f (distance q f t) ≡ records
  pub known : Known p records

-- the handler's records wait for its tail store; the first c of its stores are made behind tail; what was dropped for them
pub record AtWork (p : List ℕ) (queue : List ℕ) (q h t : ℕ) (posting : PostState) (c : ℕ) (rs : List Record) (dropped : Option Record) : Type 0 where
  pub least : 1 ≤ length rs
  pub most : length rs ≤ 4
  pub known : Known p rs
  pub room : distance q h t + length rs ≤ q
  pub posted_is : posting.posted ≡ rs
  pub dropped_is : posting.dropped_for ≡ dropped
  pub inside : c < length (record_stores q t rs)
  pub made : RecordsMade queue q t rs c

-- the record of a slot, and of the slot after tail
abbrev pub dropped_at : List ℕ → ℕ → Option Record
dropped_at queue x = Some (slot queue x)

abbrev pub after_tail : List ℕ → ℕ → ℕ → Option Record
after_tail queue q t = dropped_at queue (slot_after q t)

abbrev pub Handles : List ℕ → List ℕ → ℕ → ℕ → ℕ → ℕ → ℕ → PostState → List ℕ → Handler → Type 0
Handles p queue q phase h t g posting burst Resting = burst ≡ no_burst
Handles p queue q phase h t g posting burst (Storing n c) = AtWork p queue q h t posting c (carried burst n) None
Handles p queue q phase h t g posting burst Dropping = MayDrop p q phase h t g (carried burst 1) × (h ≢ t) × (posting.posted ≡ carried burst 1)
Handles p queue q phase h t g posting burst (Replacing c) = AtWork p queue q h t posting c (carried burst 1) (after_tail queue q t)

-- "the last call .. that wasn't refused is a post that found Q records" holds exactly of a handler about to drop
abbrev pub is_dropping : Handler → Bool
is_dropping Resting = false
is_dropping (Storing n c) = false
is_dropping Dropping = true
is_dropping (Replacing c) = false

-- ---- what holds of the store, whatever the device: of its head, waiting records and word 16, and of the serial run's task and open number

pub record Held (p : List ℕ) (queue : List ℕ) (q h f t g : ℕ) (records : List Record) (task open' : ℕ) : Type 0 where
  pub tasked : Tasked p task open'
  pub head_in : h ≤ q
  pub begun_in : g ≤ 2
  pub waits : Waiting p queue q f t records

-- ---- phase 0: the store is as the serial run has it, with memory m, current task y and open number o

pub record Still (phase task open' : ℕ) (memory : List ℕ) (y o : ℕ) (m : List ℕ) : Type 0 where
  pub phase_is : phase ≡ 0
  pub memory_is : memory ≡ m
  pub task_is : task ≡ y
  pub open_is : open' ≡ o

-- ---- phases 1 and 2: the log's first n pairs laid over memory give what the serial run has; c stores are made, and min c n pairs
-- are copied onto what memory held at the commit store or at the last boot

pub record Copying (p : List ℕ) (l n c : ℕ) (memory log m : List ℕ) : Type 0 where
  pub count_in : n ≤ l
  pub addresses : (j : ℕ) → j < n → addr log j < memory_words p
  pub base : List ℕ
  pub copied : memory ≡ overlay base log (min c n)
  pub whole : overlay base log n ≡ m

-- the copies are made, and the first of the stores ws behind them
pub record Lasting (k : Controls) (ws : List Write) (c : ℕ) : Type 0 where
  pub last : ℕ
  pub last_is : c - k.count ≡ last
  pub inside : last < length ws
  pub made : First (Has k) last ws

pub record TaskCommit (p : List ℕ) (k : Controls) (ws : List Write) (c y o : ℕ) : Type 0 where
  pub phase_is : k.phase ≡ 1
  pub task_in : k.task < tasks p
  pub pending_is : k.pending ≡ y
  pub pending_open_is : k.pending_open ≡ o
  pub lasting : Lasting k ws c

pub record EventCommit (k : Controls) (ws : List Write) (q t c y o : ℕ) : Type 0 where
  pub phase_is : k.phase ≡ 2
  pub task_is : k.task ≡ y
  pub open_is : k.open_number ≡ o
  pub open_none : k.open_number ≡ 0
  pub pending_is : (k.pending ≡ k.head) ⊎ ((k.pending ≡ slot_after q k.head) × (k.head ≢ t))
  pub lasting : Lasting k ws c

-- ---- a body runs in phase 0

-- it is word 9's task, or the event of the record at head with word 10 at 0; its register 0 was x at choosing
abbrev pub ChosenBody : ℕ → ℕ → ℕ → ℕ → List ℕ → ℕ → Body → Type 0
ChosenBody task open' h t queue x (Body.Task n) = (n ≡ task) × (x ≡ 0)
ChosenBody task open' h t queue x (Body.Event e) = (open' ≡ 0) × ((h ≢ t) × ((word queue (2 * h) ≡ e) × (word queue (2 * h + 1) ≡ x)))

-- at instruction j with registers r and l log pairs; k bounds the instructions that it has run
pub record Running (p : List ℕ) (memory log m : List ℕ) (k : ℕ) (b : Body) (x j : ℕ) (r : List ℕ) (l : ℕ) : Type 0 where
  pub body_in : body_number p b < tasks p + events p
  pub place_in : j < instructions p (body_number p b)
  pub addresses : (i : ℕ) → i < l → addr log i < memory_words p
  pub distinct : Distinct log l
  -- so many instructions without a log lead from choosing to here
  pub ran : ℕ
  pub ran_in : ran ≤ k
  pub same : (f : ℕ) → walk (ran + f) p (body_number p b) 0 (first_registers x) m ≡ walk f p (body_number p b) j r (overlay memory log l)

-- the first c stores of the body's end are made, at GO those of ws, at DONE those of us
abbrev pub Ending : Controls → (ℕ → List Write) → List Write → ℕ → Effect → Type 0
Ending k ws us c (Effect.Compute a x) = c ≡ 0
Ending k ws us c (Effect.Jump a) = c ≡ 0
Ending k ws us c (Effect.Load a x) = c ≡ 0
Ending k ws us c (Effect.Save x y) = c ≡ 0
Ending k ws us c (Effect.EndTask a) = (c < length (ws a)) × First (Has k) c (ws a)
Ending k ws us c Effect.EndEvent = (c < length us) × First (Has k) c us
Ending k ws us c Effect.Unknown = ⊥

-- the address of a SAVE is stored behind l pairs that haven't it
abbrev pub HalfSaved : List ℕ → List ℕ → ℕ → ℕ → Effect → Type 0
HalfSaved p log pairs l (Effect.Compute a x) = ⊥
HalfSaved p log pairs l (Effect.Jump k) = ⊥
HalfSaved p log pairs l (Effect.Load a x) = ⊥
HalfSaved p log pairs l (Effect.Save x y) = (x < memory_words p) × ((l < pairs) × ((addr log l ≡ x) × ((i : ℕ) → i < l → addr log i ≢ x)))
HalfSaved p log pairs l (Effect.EndTask k) = ⊥
HalfSaved p log pairs l Effect.EndEvent = ⊥
HalfSaved p log pairs l Effect.Unknown = ⊥

-- ---- the whole, for the store v, the device d and the serial state z after k calls

abbrev pub HeldAt : List ℕ → Store → Serial → Type 0
HeldAt p v z = Held p v.queue v.queue_records v.head (first_waiting v) v.tail v.begun z.records z.task z.open_number

abbrev pub StillAt : Store → Serial → Type 0
StillAt v z = Still v.phase v.task v.open_number v.memory z.task z.open_number z.memory

abbrev pub CopyingAt : List ℕ → Store → Serial → ℕ → Type 0
CopyingAt p v z c = Copying p v.log_pairs v.count c v.memory v.log z.memory

abbrev pub TaskCommitAt : List ℕ → Store → Serial → ℕ → Type 0
TaskCommitAt p v z c = TaskCommit p (controls v) (task_last_stores v) c z.task z.open_number

abbrev pub EventCommitAt : Store → Serial → ℕ → Type 0
EventCommitAt v z c = EventCommit (controls v) (event_last_stores v) v.queue_records v.tail c z.task z.open_number

-- a commit of which c stores are made
abbrev pub CommitAt : List ℕ → Store → Serial → ℕ → Type 0
CommitAt p v z c = CopyingAt p v z c × (TaskCommitAt p v z c ⊎ EventCommitAt v z c)

-- and word 16 has its kind
abbrev pub ChosenAt : Store → ℕ → Body → Type 0
ChosenAt v x b = ChosenBody v.task v.open_number v.head v.tail v.queue x b × (v.begun ≡ kind_of b)

abbrev pub BodyAt : List ℕ → Store → Device → Serial → ℕ → Body → ℕ → Type 0
BodyAt p v d z k b j =
    StillAt v z × ((x : ℕ) × ChosenAt v x b × Running p v.memory v.log z.memory k b x j d.registers d.count)

abbrev pub EndingAt : List ℕ → Store → Device → Body → ℕ → Effect → Type 0
EndingAt p v d b c f = Ending (controls v) (λ a. task_stores p (body_number p b) a d.count) (event_stores v d.count) c f

abbrev pub Placed : List ℕ → Store → Device → Serial → ℕ → Place → Type 0
Placed p v d z k (Free c) = (StillAt v z × ((c ≡ 0) × (v.begun ≡ 0))) ⊎ CommitAt p v z c
Placed p v d z k (Run b j c) = BodyAt p v d z k b j × EndingAt p v d b c (effect_at p (body_number p b) j d.registers)
Placed p v d z k (Half b j) = BodyAt p v d z k b j × HalfSaved p v.log v.log_pairs d.count (effect_at p (body_number p b) j d.registers)

-- in phase 0: nothing is begun, or the current task, or the event of the record at head
abbrev pub Begins : Store → Type 0
Begins v = (v.begun ≡ 0) ⊎ ((v.begun ≡ 1) ⊎ ((v.begun ≡ 2) × ((v.open_number ≡ 0) × (v.head ≢ v.tail))))

-- what a boot finds: that, or a commit to be made from its first pair on
abbrev pub Resumes : List ℕ → Store → Serial → Type 0
Resumes p v z = (StillAt v z × Begins v) ⊎ CommitAt p v z 0

abbrev pub HandlesAt : List ℕ → Store → Serial → List ℕ → Handler → Type 0
HandlesAt p v z burst handler =
    Handles p v.queue v.queue_records v.phase v.head v.tail v.begun z.posting burst handler

pub record Off (p : List ℕ) (v : Store) (d : Device) (z : Serial) : Type 0 where
  pub held : HeldAt p v z
  pub resumes : Resumes p v z
  pub is_off : d ≡ off
  pub unmarked : z.posting.found_full ≡ false

pub record On (p : List ℕ) (v : Store) (d : Device) (z : Serial) (k : ℕ) : Type 0 where
  pub held : HeldAt p v z
  pub on : d.on ≡ true
  pub handles : HandlesAt p v z d.burst d.handler
  pub marked : z.posting.found_full ≡ is_dropping d.handler
  pub count_in : d.count ≤ v.log_pairs
  pub placed : Placed p v d z k d.place

abbrev pub Inv : List ℕ → Store → Device → Serial → ℕ → Type 0
Inv p v d z k = Off p v d z ⊎ On p v d z k
