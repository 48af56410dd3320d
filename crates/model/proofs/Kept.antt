-- Each call keeps the invariant, and the serial run follows it: what a kept call is; refused calls; the handler's stores; a commit's stores in
-- phases 1 and 2. Assumes nothing.
use Prim.Native.Nat.{ℕ, zero, suc, ◌+◌, ◌-◌, ◌*◌, ◌≤◌, ◌<◌, min}
use mathlib.Core.Path.{◌≡◌, refl, sym, ap, subst, ◌∙◌}
use mathlib.Core.Logic.{◌⊎◌, inl, inr, ⊎_elim, ◌≢◌}
use mathlib.Core.Bool.{true, false}
use mathlib.Core.List.{List, [], ◌∷◌, ◌++◌}
use native.Mathlib.Numerals.{add-one}
use native.Mathlib.Omega.{arith}
use lib.Dec.{eqb}
use lib.ListN.{length, get_or, set}
use borrow.Author.Tests.{lt-ltb, le-ltb}
use Rattle.model.proofs.FirstStores.{First, storing_goes, storing-ends}
use Rattle.model.proofs.Invariant.{Controls, controls, Has, Lengths, Waiting, AtWork, HandlesAt, is_dropping, HeldAt, Lasting, Copying, CopyingAt, TaskCommitAt, EventCommitAt, CommitAt, ChosenAt, Running, Placed, Begins, On, Inv}
use Rattle.model.proofs.LogLaws.{overlay, overlay_suc}
use Rattle.model.proofs.RingLaws.{Between, known-between, forward_le, distance_some, distance-head, forward-distance, distance-forward, tail_apart, slot_apart, records-append, records-same, known-append, RecordStore, event_store, datum_store, record_store, tail-store, record_stores_lem, records-made, queue_after, slot_stays, next-made}
use Rattle.model.proofs.StoreLaws.{apply, with_phase, with_begun, with_queue, with_next, Inside}
use Rattle.model.proofs.TestLaws.{pick_case, pick_true, pick-false, below_or, must-true}
use Rattle.model.specs.Demand3.{Expected}
use Rattle.model.specs.Burst.{carried, no_burst}
use Rattle.model.specs.Calls.{Call, Step}
use Rattle.model.specs.Accepted.{Known}
use Rattle.model.specs.Device.{Outcome, out, refuse, judged, fresh, with_handler, resting, with_place, record_stores, handler_step, storing, task_stores, event_stores, task_last_stores, event_last_stores, last_stores, kind_of, begun_of, pair_sound, copy_step}
use Rattle.model.specs.Program.{word, tasks, events, memory_words}
use Rattle.model.specs.Serial.{Serial, PostState, given, no_post, with_records, unchanged, accept, after_stored, tell}
use Rattle.model.specs.Store.{Store, address, value, event, log_at, slot_after, forward, distance, first_waiting, slot, Phase, Task, Open, Head, Tail, Begun, Memory, Write, none, to}
use Rattle.model.specs.Test.{pick}
use Rattle.model.specs.Turns.{begun_after, InTurn}
use Rattle.model.specs.Types.{Answer, Body, Checked, Device, Free, Half, Handler, None, Option, Place, Record, Refusal, Resting, Run, Some}

-- a store to a word that is there
abbrev pub InsideOf : List ℕ → Store → Write → Type 0
InsideOf p v none = Unit {0}
InsideOf p v (to w x) = Inside (memory_words p) v.log_pairs v.queue_records w

-- an accepting answer has what the serial run dropped for the latest post
abbrev pub TellsDropped : Serial → Answer → Type 0
TellsDropped z Answer.Done = Unit {0}
TellsDropped z (Answer.Chosen b) = Unit {0}
TellsDropped z Answer.Worked = Unit {0}
TellsDropped z Answer.Stored = Unit {0}
TellsDropped z (Answer.Committed b) = Unit {0}
TellsDropped z (Answer.Accepted x) = x ≡ z.posting.dropped_for
TellsDropped z (Answer.Refused r) = Unit {0}

-- where the latest call that wasn't refused isn't a post that found Q records, all but posts and bodies leaves the serial run where it was
pub unchanged_is : (z : Serial) → z.posting.found_full ≡ false → unchanged z ≡ z
unfolding unchanged with_records no_post
unchanged_is z e =
    let posting = z.posting in
    λ i. with_records z z.records
    (record { posted = posting.posted; found_full = sym e i; dropped_for = posting.dropped_for; dropped = posting.dropped })

pub record Kept (p : List ℕ) (v : Store) (z : Serial) (k : ℕ) (c : Call) (o : Outcome) : Type 0 where
  pub inside : InsideOf p v o.write
  pub serial : Serial
  pub tells : (fuel : ℕ) → k < fuel → tell fuel (given p v.log_pairs v.queue_records) z c o.answer ≡ Some serial
  pub expected : Expected c o.answer
  pub turn : InTurn z (begun_of v) o.answer
  pub told : TellsDropped z o.answer
  pub begins : begun_of (apply v o.write) ≡ begun_after (begun_of v) o.answer
  pub inv : Inv p (apply v o.write) o.device serial (suc k)

-- a step that stores a word and leaves the serial run where it was
pub stored-kept : {p : List ℕ} {v : Store} {z : Serial} {k : ℕ} (w : Write) (e : Device) → z.posting.found_full ≡ false → InsideOf p v w
    → begun_of (apply v w) ≡ begun_of v → Inv p (apply v w) e z (suc k) → Kept p v z k Step (out w e Answer.Stored)
unfolding tell after_stored begun_after
stored-kept {z = z} w e unmarked inside same i =
    record {
      inside = inside;
      serial = z;
      tells = λ fuel l. pick-false _ _ unmarked ∙ ap Some (unchanged_is z unmarked);
      expected = tt;
      turn = tt;
      told = tt;
      begins = same;
      inv = i;
    }

-- ---- the body that is begun, by the store

pub begun_nothing : (v : Store) → v.begun ≡ 0 → begun_of v ≡ None
unfolding begun_of
begun_nothing v e =
    pick_case (λ (g : Option Body). g ≡ None) (λ _. pick-false _ _ (ap (λ (n : ℕ). eqb n 1) e) ∙ pick-false _ _ (ap (λ (n : ℕ). eqb n 2) e)) (λ _. refl)

pub begun-committing : (v : Store) (n : ℕ) → v.phase ≡ n → eqb n 0 ≡ false → begun_of v ≡ None
unfolding begun_of
begun-committing v n e f = pick-false _ _ (ap (λ (x : ℕ). eqb x 0) e ∙ f)

pub begun-task : (v : Store) → v.phase ≡ 0 → v.begun ≡ 1 → begun_of v ≡ Some (Body.Task v.task)
unfolding begun_of
begun-task v e g = pick_true _ _ (ap (λ (x : ℕ). eqb x 0) e) ∙ pick_true _ _ (ap (λ (n : ℕ). eqb n 1) g)

pub begun_event : (v : Store) → v.phase ≡ 0 → v.begun ≡ 2 → begun_of v ≡ Some (Body.Event (event v v.head))
unfolding begun_of
begun_event v e g =
    pick_true _ _ (ap (λ (x : ℕ). eqb x 0) e) ∙ pick-false _ _ (ap (λ (n : ℕ). eqb n 1) g) ∙ pick_true _ _ (ap (λ (n : ℕ). eqb n 2) g)

pub begun-chosen : (v : Store) → v.phase ≡ 0 → (x : ℕ) (b : Body) → ChosenAt v x b → begun_of v ≡ Some b
unfolding kind_of
begun-chosen v e x (Body.Task t) (m, g) = begun-task v e g ∙ ap (λ (n : ℕ). Some (Body.Task n)) (sym m.0)
begun-chosen v e x (Body.Event n) (m, g) = begun_event v e g ∙ ap (λ (n : ℕ). Some (Body.Event n)) m.1.1.0

pub chosen-begins : (v : Store) (b : Body) (x : ℕ) → ChosenAt v x b → Begins v
unfolding kind_of
chosen-begins v (Body.Task t) x (m, g) = inr (inl g)
chosen-begins v (Body.Event e) x (m, g) = inr (inr (g, (m.0, m.1.0)))

-- ---- one call later

pub running_later : {p memory log m : List ℕ} {k : ℕ} {b : Body} {x j : ℕ} {r : List ℕ} {l : ℕ} → Running p memory log m k b x j r l → Running p memory log m (suc k) b x j r l
running_later h =
    record {
      body_in = h.body_in;
      place_in = h.place_in;
      addresses = h.addresses;
      distinct = h.distinct;
      ran = h.ran;
      ran_in = omega (arith, h.ran_in);
      same = h.same;
    }

placed_later : (p : List ℕ) (v : Store) (d : Device) (z : Serial) (k : ℕ) (x : Place) → Placed p v d z k x → Placed p v d z (suc k) x
placed_later p v d z k (Free c) h = h
placed_later p v d z k (Run b j c) ((s, (x, m, r)), e) = ((s, (x, m, running_later r)), e)
placed_later p v d z k (Half b j) ((s, (x, m, r)), e) = ((s, (x, m, running_later r)), e)

inv_later : (p : List ℕ) (v : Store) (d : Device) (z : Serial) (k : ℕ) → Inv p v d z k → Inv p v d z (suc k)
inv_later p v d z k (inl o) = inl o
inv_later p v d z k (inr i) =
    inr
    (record {
      held = i.held;
      on = i.on;
      handles = i.handles;
      marked = i.marked;
      count_in = i.count_in;
      placed = placed_later p v d z k d.place i.placed;
    })

-- a refused call
pub refused-kept : (p : List ℕ) (v : Store) (d : Device) (z : Serial) (k : ℕ) (c : Call) (r : Refusal) → Expected c (Answer.Refused r) → Inv p v d z k → Kept p v z k c (refuse d r)
unfolding tell apply begun_after
refused-kept p v d z k c r e i =
    record { inside = tt; serial = z; tells = λ fuel l. refl; expected = e; turn = tt; told = tt; begins = refl; inv = inv_later p v d z k i }

-- ---- where the waiting records start

pub first_head : (v : Store) (n : ℕ) → v.phase ≡ n → eqb n 2 ≡ false → first_waiting v ≡ v.head
unfolding first_waiting
first_head v n e f = pick-false _ _ (ap (λ (x : ℕ). eqb x 2) e ∙ f)

pub first-pending : (v : Store) → v.phase ≡ 2 → first_waiting v ≡ v.pending
unfolding first_waiting
first-pending v e = pick_true _ _ (ap (λ (x : ℕ). eqb x 2) e)

-- a waiting record's event is below E
pub known-waiting : {p queue : List ℕ} {q f t : ℕ} {records : List Record} → Waiting p queue q f t records → (x : ℕ) → x ≤ q → Between f t x
    → word queue (2 * x) < events p
known-waiting {p = p} {queue = queue} {q = q} {f = f} {t = t} w x l b =
    known-between p queue q f t x w.first_in w.tail_in l (subst (Known p) (sym w.same) w.known) b

-- as many records as fit behind tail by head fit by the first waiting one, too
module _ (p : List ℕ) (v : Store) (d : Device) (z : Serial) (k : ℕ) (i : On p v d z k) where
  abbrev pub Room : ℕ → Type 0
  Room n = distance v.queue_records v.head v.tail + n ≤ v.queue_records → distance v.queue_records (first_waiting v) v.tail + n ≤ v.queue_records

  pub room-first : (n : ℕ) → Room n
  room-first n = by_place d.place i.placed
    where
      by_head : (y : ℕ) → v.phase ≡ y → eqb y 2 ≡ false → Room n
      by_head y e f room = rw (first_head v y e f) room

      by_place : (x : Place) → Placed p v d z k x → Room n
      by_place (Free c) (inl (s, e)) = by_head 0 s.phase_is refl
      by_place (Free c) (inr (y, inl t)) = by_head 1 t.phase_is refl
      by_place (Free c) (inr (y, inr t)) = λ room. rw (first-pending v t.phase_is) (from_pending t.pending_is room)
        where
          from_pending : (v.pending ≡ v.head) ⊎ ((v.pending ≡ slot_after v.queue_records v.head) × (v.head ≢ v.tail))
              → distance v.queue_records v.head v.tail + n ≤ v.queue_records → distance v.queue_records v.pending v.tail + n ≤ v.queue_records
          from_pending (inl e) room = rw e room
          from_pending (inr (e, ne)) room =
              let fewer = distance-head v.queue_records v.head v.tail i.held.head_in i.held.waits.tail_in ne in
              rw e (omega (arith, fewer, room))
      by_place (Run b j c) ((s, r), e) = by_head 0 s.phase_is refl
      by_place (Half b j) ((s, r), e) = by_head 0 s.phase_is refl

-- the serial run adds what was posted, if it is something
accept_some : (z : Serial) (posted rs : List Record) → posted ≡ rs → 1 ≤ length rs
    → accept z posted ≡ Some (with_records z (z.records ++ rs) (no_post z.posting))
unfolding accept
accept_some z posted [] e l = absurd (omega arith)
accept_some z posted (r ∷ rs) e l = ap (accept z) e

-- ---- a handler at rest

pub unmarked_of : {p : List ℕ} {v : Store} {d : Device} {z : Serial} {k : ℕ} → On p v d z k → d.handler ≡ Resting → z.posting.found_full ≡ false
unmarked_of i rest = i.marked ∙ ap is_dropping rest

-- it has no burst, whatever the store and the serial run
pub rests_on : {p : List ℕ} {v : Store} {d : Device} {z : Serial} {k : ℕ} → On p v d z k → d.handler ≡ Resting → (u : Store) (y : Serial)
    → HandlesAt p u y d.burst d.handler
rests_on {p = p} {v = v} {d = d} {z = z} i rest u y =
    subst (HandlesAt p u y d.burst) (sym rest) (subst (HandlesAt p v z d.burst) rest i.handles)

-- ---- the handler: only the queue and its tail change

module _ (p : List ℕ) (v : Store) (d : Device) (z : Serial) (k : ℕ) (queue : List ℕ) (t : ℕ) where
  abbrev pub ChosenStays : Type 0
  ChosenStays = (b : Body) (x : ℕ) → ChosenAt v x b → ChosenAt (with_queue v queue t) x b

  pub placed_queue : (h : Handler) (burst : List ℕ) (rs : List Record) (y : PostState) → ChosenStays → (v.head ≢ v.tail → v.head ≢ t) → (x : Place)
      → Placed p v d z k x → Placed p (with_queue v queue t) (with_handler d h burst) (with_records z rs y) (suc k) x
  unfolding with_handler with_records task_stores event_stores task_last_stores event_last_stores
  placed_queue h burst rs y f g (Free c) (inl s) = inl s
  placed_queue h burst rs y f g (Free c) (inr (m, inl s)) = inr (m, inl s)
  placed_queue h burst rs y f g (Free c) (inr (m, inr s)) =
      inr (
        m,
        inr
            (record {
              phase_is = s.phase_is;
              task_is = s.task_is;
              open_is = s.open_is;
              open_none = s.open_none;
              pending_is = ⊎_elim inl (λ q. inr (q.0, g q.1)) s.pending_is;
              lasting = s.lasting;
            }),
      )
  placed_queue h burst rs y f g (Run b j c) ((s, (x, m, r)), e) = ((s, (x, f b x m, running_later r)), e)
  placed_queue h burst rs y f g (Half b j) ((s, (x, m, r)), e) = ((s, (x, f b x m, running_later r)), e)

  -- what is begun stays
  pub begun-queue : ChosenStays → (x : Place) → Placed p v d z k x → begun_of (with_queue v queue t) ≡ begun_of v
  begun-queue f (Free c) (inl (s, (e, g))) = begun_nothing (with_queue v queue t) g ∙ sym (begun_nothing v g)
  begun-queue f (Free c) (inr (m, inl s)) = begun-committing (with_queue v queue t) 1 s.phase_is refl ∙ sym (begun-committing v 1 s.phase_is refl)
  begun-queue f (Free c) (inr (m, inr s)) = begun-committing (with_queue v queue t) 2 s.phase_is refl ∙ sym (begun-committing v 2 s.phase_is refl)
  begun-queue f (Run b j c) ((s, (x, m, r)), e) = begun-chosen (with_queue v queue t) s.phase_is x b (f b x m) ∙ sym (begun-chosen v s.phase_is x b m)
  begun-queue f (Half b j) ((s, (x, m, r)), e) = begun-chosen (with_queue v queue t) s.phase_is x b (f b x m) ∙ sym (begun-chosen v s.phase_is x b m)

-- the stores of a handler at work on the records rs, c of which are made
module _ (p : List ℕ) (v : Store) (lengths : Lengths p v) (d : Device) (z : Serial) (k : ℕ) (i : On p v d z k) (rs : List Record) (c : ℕ) (dropped : Option Record)
    (a : AtWork p v.queue v.queue_records v.head v.tail z.posting c rs dropped) (unmarked : z.posting.found_full ≡ false) where
  -- a slot that its stores go to isn't head's, if a record waits there, nor a waiting one
  head_apart : v.head ≢ v.tail → (n : ℕ) → n < length rs → v.head ≢ forward v.queue_records v.tail n
  unfolding forward
  head_apart ne n l =
      slot_apart v.queue_records v.head v.tail n i.held.head_in i.held.waits.tail_in (omega (arith, a.room)) 0
      (distance_some v.queue_records v.head v.tail i.held.head_in i.held.waits.tail_in ne)

  waiting_apart : (j : ℕ) → j < distance v.queue_records (first_waiting v) v.tail → (n : ℕ) → n < length rs
      → forward v.queue_records (first_waiting v) j ≢ forward v.queue_records v.tail n
  waiting_apart j l n m =
      slot_apart v.queue_records (first_waiting v) v.tail n i.held.waits.first_in i.held.waits.tail_in
      (omega (arith, room-first p v d z k i (length rs) a.room)) j l

  -- ---- a store before the last

  module _ (w : Write) (s : RecordStore v.queue_records v.tail rs w) where
    abbrev queue' : List ℕ
    queue' = queue_after v.queue w

    store_is : apply v w ≡ with_queue v queue' v.tail
    unfolding apply queue_after
    store_is = go w s
      where
        go : (w : Write) → RecordStore v.queue_records v.tail rs w → apply v w ≡ with_queue v (queue_after v.queue w) v.tail
        go w (event_store n r l m) = refl
        go w (datum_store n r l m) = refl

    store-inside : InsideOf p v w
    store-inside = go w s
      where
        below : (n : ℕ) → n < length rs → forward v.queue_records v.tail n ≤ v.queue_records
        below n l = forward_le v.queue_records v.tail n i.held.waits.tail_in (omega (arith, a.room))

        go : (w : Write) → RecordStore v.queue_records v.tail rs w → InsideOf p v w
        go w (event_store n r l m) = below n l
        go w (datum_store n r l m) = below n l

    chosen_stays : ChosenStays p v d z k queue' v.tail
    unfolding slot
    chosen_stays (Body.Task n) x m = m
    chosen_stays (Body.Event e) x ((o, (ne, (f, g))), kind) =
        let same = slot_stays v.queue v.queue_records v.tail rs w s v.head (head_apart ne) in
        ((o, (ne, (ap (λ (r : Record). r.event) same ∙ f, ap (λ (r : Record). r.datum) same ∙ g))), kind)

    waits_stay : Waiting p queue' v.queue_records (first_waiting v) v.tail z.records
    waits_stay =
        let q = i.held.waits in
        record {
          first_in = q.first_in;
          tail_in = q.tail_in;
          same =
              records-same v.queue queue' v.queue_records _ (first_waiting v)
              (λ j l. slot_stays v.queue v.queue_records v.tail rs w s _ (waiting_apart j l)) ∙ q.same;
          known = q.known;
        }

    pub record_kept : (h : Handler) → HandlesAt p (with_queue v queue' v.tail) z d.burst h → is_dropping h ≡ false
        → Kept p v z k Step (out w (with_handler d h d.burst) Answer.Stored)
    unfolding with_handler with_records first_waiting
    record_kept h hs plain =
        stored-kept w (with_handler d h d.burst) unmarked store-inside (rw store_is (begun-queue p v d z k queue' v.tail chosen_stays d.place i.placed))
        (rw store_is
        (inr
        (record {
          held = record { tasked = i.held.tasked; head_in = i.held.head_in; begun_in = i.held.begun_in; waits = waits_stay };
          on = i.on;
          handles = hs;
          marked = unmarked ∙ sym plain;
          count_in = i.count_in;
          placed = placed_queue p v d z k queue' v.tail h d.burst z.records z.posting chosen_stays (λ ne. ne) d.place i.placed;
        })))

  -- ---- the last, after which the records wait

  module _ (last : c ≡ 2 * length rs) where
    abbrev tail' : ℕ
    tail' = forward v.queue_records v.tail (length rs)

    -- head isn't the new tail
    tail_free : v.head ≢ tail'
    tail_free = tail_apart v.queue_records v.head v.tail (length rs) i.held.head_in i.held.waits.tail_in a.room (omega (arith, a.least))

    abbrev longer : Serial
    longer = with_records z (z.records ++ rs) (no_post z.posting)

    held_longer : HeldAt p (with_queue v v.queue tail') longer
    unfolding first_waiting with_records
    held_longer =
        let q = i.held.waits in
        let room = room-first p v d z k i (length rs) a.room in
        let n = distance v.queue_records (first_waiting v) v.tail in
        let more = distance-forward v.queue_records (first_waiting v) v.tail (length rs) q.first_in q.tail_in room in
        let behind = forward-distance v.queue_records (first_waiting v) v.tail q.first_in q.tail_in in
        record {
          tasked = i.held.tasked;
          head_in = i.held.head_in;
          begun_in = i.held.begun_in;
          waits =
              record {
                first_in = q.first_in;
                tail_in = forward_le v.queue_records v.tail (length rs) q.tail_in (omega (arith, a.room));
                same =
                    rw more
                    (records-append v.queue v.queue_records n (length rs) (first_waiting v)
                    ∙ rw (q.same, behind, records-made v.queue v.queue_records rs v.tail c last a.made));
                known = known-append p z.records rs q.known a.known;
              };
        }

    chosen-tail : ChosenStays p v d z k v.queue tail'
    chosen-tail (Body.Task n) y m = m
    chosen-tail (Body.Event n) y ((o, (ne, m)), kind) = ((o, (tail_free, m)), kind)

    tail-stored : Inv p (with_queue v v.queue tail') (resting d) longer (suc k)
    unfolding with_handler with_records no_post
    tail-stored =
        inr
        (record {
          held = held_longer;
          on = i.on;
          handles = refl;
          marked = refl;
          count_in = i.count_in;
          placed = placed_queue p v d z k v.queue tail' Resting no_burst (z.records ++ rs) (no_post z.posting) chosen-tail (λ _. tail_free) d.place i.placed;
        })

    pub tail-kept : Kept p v z k Step (out (to Tail tail') (resting d) (Answer.Accepted dropped))
    unfolding apply tell begun_after
    tail-kept =
        record {
          inside = tt;
          serial = longer;
          tells = λ fuel l. accept_some z z.posting.posted rs a.posted_is a.least;
          expected = tt;
          turn = tt;
          told = sym a.dropped_is;
          begins = begun-queue p v d z k v.queue tail' chosen-tail d.place i.placed;
          inv = tail-stored;
        }

-- a handler at work on n records; after a store that isn't its last it is `later`, and what was dropped for them is what `dropped` finds in the queue
module _ (p : List ℕ) (v : Store) (lengths : Lengths p v) (d : Device) (z : Serial) (k : ℕ) (i : On p v d z k) (n c : ℕ) (later : Handler)
    (dropped : List ℕ → Option Record) (a : AtWork p v.queue v.queue_records v.head v.tail z.posting c (carried d.burst n) (dropped v.queue))
    (not-now : is_dropping d.handler ≡ false) (not-later : is_dropping later ≡ false) where
  abbrev rs : List Record
  rs = carried d.burst n

  abbrev stores : List Write
  stores = record_stores v.queue_records v.tail rs

  abbrev many : ℕ
  many = 2 * length rs

  abbrev AtWorkWith : List ℕ → Type 0
  AtWorkWith queue = AtWork p queue v.queue_records v.head v.tail z.posting (c + 1) rs (dropped queue)

  -- it goes on, and its records' stores leave what was dropped where it is
  abbrev GoesOn : Type 0
  GoesOn = (queue : List ℕ) → AtWorkWith queue → HandlesAt p (with_queue v queue v.tail) z d.burst later

  abbrev DroppedStays : Type 0
  DroppedStays = (w : Write) → RecordStore v.queue_records v.tail rs w → dropped (queue_after v.queue w) ≡ dropped v.queue

  stores_are : length stores ≡ many + 1
  stores_are = record_stores_lem v.queue_records rs v.tail

  ends : c ≡ many → Kept p v z k Step (handler_step v d n c later (dropped v.queue))
  unfolding handler_step
  ends last =
      rw (storing-ends stores c _ _ _ (omega (arith, stores_are)), tail-store v.queue_records rs v.tail c last)
      (tail-kept p v lengths d z k i rs c (dropped v.queue) a (i.marked ∙ not-now) last)

  goes : GoesOn → DroppedStays → c < many → Kept p v z k Step (handler_step v d n c later (dropped v.queue))
  unfolding handler_step
  goes on stays before =
      let w = get_or stores c none in
      let s = record_store v.queue_records rs v.tail c before in
      rw (storing_goes stores c _ _ _ (omega (arith, stores_are)))
      (record_kept p v lengths d z k i rs c (dropped v.queue) a (i.marked ∙ not-now) w s later
      (on (queue_after v.queue w)
      (record {
        least = a.least;
        most = a.most;
        known = a.known;
        room = a.room;
        posted_is = a.posted_is;
        dropped_is = a.dropped_is ∙ sym (stays w s);
        inside = omega (arith, stores_are);
        made =
            rw (add-one c)
            (next-made v.queue v.queue_records lengths.queue_length rs v.tail c i.held.waits.tail_in (omega (arith, a.room)) before a.made);
      })) not-later)

  pub handler-kept : GoesOn → DroppedStays → Kept p v z k Step (handler_step v d n c later (dropped v.queue))
  handler-kept on stays = below_or c many (goes on stays) (λ l. ends (omega (arith, stores_are, a.inside)))

-- ---- a commit's stores in phases 1 and 2

-- a commit of which no pair, or not every pair, is copied has made none of its last stores
pub copies_left : {k : Controls} {ws : List Write} {c : ℕ} → c ≤ k.count → 0 < length ws → Lasting k ws c
copies_left l more = record { last = 0; last_is = omega arith; inside = more; made = tt }

pub lasting_in : {k : Controls} {ws : List Write} {c : ℕ} → Lasting k ws c → c < k.count + length ws
lasting_in l = omega (arith, l.last_is, l.inside)

-- r stores are left of a commit of which c are made
abbrev pub Remaining : Store → ℕ → ℕ → Type 0
Remaining v c r = ((v.phase ≡ 0) × (r ≡ 0)) ⊎ ((v.phase ≢ 0) × (r + c ≡ v.count + length (last_stores v)))

-- a commit's store, after which r are left
pub record LeavesStores (v : Store) (o : Outcome) (r : ℕ) : Type 0 where
  pub answer_is : o.answer ≡ Answer.Stored
  pub on : o.device.on ≡ true
  pub rests : o.device.handler ≡ Resting
  pub place : ℕ
  pub place_is : o.device.place ≡ Free place
  pub remaining : Remaining (apply v o.write) place r

pub task_last_is : (v : Store) → v.phase ≡ 1 → last_stores v ≡ task_last_stores v
unfolding last_stores
task_last_is v e = pick_true _ _ (ap (λ (x : ℕ). eqb x 1) e)

pub event_last_is : (v : Store) → v.phase ≡ 2 → last_stores v ≡ event_last_stores v
unfolding last_stores
event_last_is v e = pick-false _ _ (ap (λ (x : ℕ). eqb x 1) e)

module _ (p : List ℕ) (v : Store) (d : Device) (rest : d.handler ≡ Resting) (z : Serial) (k : ℕ) (i : On p v d z k) (c : ℕ)
    (m : CopyingAt p v z c) where
  -- the device one store later
  abbrev further : Device
  further = with_place d d.registers (Free (c + 1)) d.count

  -- the same at another store: the commit goes on
  goes_on : (u : Store) → HeldAt p u z → u.log_pairs ≡ v.log_pairs → CommitAt p u z (c + 1) → Inv p u further z (suc k)
  unfolding with_place
  goes_on u held pairs commit =
      inr (record { held = held; on = i.on; handles = rests_on i rest u z; marked = i.marked; count_in = omega (arith, i.count_in); placed = inr commit })

  copy_is : c < v.count → copy_step p v d c ≡ out (to (Memory (address v c)) (value v c)) further Answer.Stored
  unfolding copy_step pair_sound judged
  copy_is h =
      pick_true _ _ (lt-ltb _ _ h)
      ∙ ap (λ (x : Checked). judged x d (out (to (Memory (address v c)) (value v c)) further Answer.Stored))
      (must-true (Refusal.Control (log_at (memory_words p) + 2 * c)) (lt-ltb _ _ (m.addresses c h)))

  copied_one : c < v.count → Copying p v.log_pairs v.count (c + 1) (set v.memory (address v c) (value v c)) v.log z.memory
  copied_one h =
      record {
        count_in = m.count_in;
        addresses = m.addresses;
        base = m.base;
        copied =
            let now : min c v.count ≡ c = omega arith in
            let then' : suc c ≡ min (c + 1) v.count = omega arith in
            ap (λ (l : List ℕ). set l (address v c) (value v c)) (m.copied ∙ ap (overlay m.base v.log) now)
            ∙ sym (overlay_suc m.base v.log c)
            ∙ ap (overlay m.base v.log) then';
        whole = m.whole;
      }

  task-on : TaskCommitAt p v z c → Lasting (controls v) (task_last_stores v) (c + 1) → TaskCommitAt p v z (c + 1)
  task-on s l =
      record { phase_is = s.phase_is; task_in = s.task_in; pending_is = s.pending_is; pending_open_is = s.pending_open_is; lasting = l }

  event-on : EventCommitAt v z c → Lasting (controls v) (event_last_stores v) (c + 1) → EventCommitAt v z (c + 1)
  event-on s l =
      record { phase_is = s.phase_is; task_is = s.task_is; open_is = s.open_is; open_none = s.open_none; pending_is = s.pending_is; lasting = l }

  copy_kept : (TaskCommitAt p v z c ⊎ EventCommitAt v z c) → c < v.count → Kept p v z k Step (copy_step p v d c)
  unfolding apply first_waiting task_last_stores event_last_stores begun_of
  copy_kept t h =
      rw (copy_is h)
      (stored-kept (to (Memory (address v c)) (value v c)) further (unmarked_of i rest) (m.addresses c h) refl
      (goes_on (apply v (to (Memory (address v c)) (value v c))) i.held refl (
        copied_one h,
        ⊎_elim (λ s. inl (task-on s (copies_left (omega arith) (omega arith)))) (λ s. inr (event-on s (copies_left (omega arith) (omega arith)))) t,
      )))

  -- all pairs are copied
  memory_whole : v.count ≤ c → v.memory ≡ z.memory
  memory_whole h = let e : min c v.count ≡ v.count = omega arith in m.copied ∙ ap (overlay m.base v.log) e ∙ m.whole

  copied_further : v.count ≤ c → CopyingAt p v z (c + 1)
  copied_further h =
      record {
        count_in = m.count_in;
        addresses = m.addresses;
        base = m.base;
        copied = let e : min c v.count ≡ min (c + 1) v.count = omega arith in m.copied ∙ ap (overlay m.base v.log) e;
        whole = m.whole;
      }

  last_is : v.count ≤ c → (j : ℕ) → c - v.count ≡ j → copy_step p v d c ≡ storing (last_stores v) j further (fresh true) Answer.Stored
  unfolding copy_step
  last_is h j e = pick-false _ _ (le-ltb _ _ h) ∙ ap (λ (x : ℕ). storing (last_stores v) x further (fresh true) Answer.Stored) e

  -- ---- the last stores of a task's commit

  module _ (h : v.count ≤ c) (s : TaskCommitAt p v z c) where
    -- words 9, 10 and 16 become y, o and g, the first j + 1 of these stores are made
    abbrev next : ℕ → ℕ → ℕ → Store
    next y o g = with_begun (with_next v y o v.head) g

    task-stored : (w : Write) (y o g j : ℕ) → InsideOf p v w → apply v w ≡ next y o g → y < tasks p → g ≤ 2 → c - v.count ≡ j → suc j < length (task_last_stores v)
        → First (Has (controls (next y o g))) (suc j) (task_last_stores v) → Kept p v z k Step (out w further Answer.Stored)
    unfolding task_last_stores first_waiting
    task-stored w y o g j inside is below kind at more made =
        let held = i.held in
        stored-kept w further (unmarked_of i rest) inside
        (rw is (begun-committing (next y o g) 1 s.phase_is refl ∙ sym (begun-committing v 1 s.phase_is refl)))
        (rw is
        (goes_on (next y o g) (record { tasked = held.tasked; head_in = held.head_in; begun_in = kind; waits = held.waits }) refl (
          copied_further h,
          inl
              (record {
                phase_is = s.phase_is;
                task_in = below;
                pending_is = s.pending_is;
                pending_open_is = s.pending_open_is;
                lasting = record { last = suc j; last_is = omega arith; inside = more; made = made };
              }),
        )))

    task-ended : v.task ≡ v.pending → v.open_number ≡ v.pending_open → v.begun ≡ 0 → Kept p v z k Step (out (to Phase 0) (fresh true) Answer.Stored)
    unfolding apply fresh first_waiting pick
    task-ended task open' begun =
        stored-kept (to Phase 0) (fresh true) (unmarked_of i rest) tt (begun_nothing (with_phase v 0) begun ∙ sym (begun_nothing v begun))
        (inr
        (record {
          held =
              record {
                tasked = i.held.tasked;
                head_in = i.held.head_in;
                begun_in = i.held.begun_in;
                waits = rw (first_head v 1 s.phase_is refl) at i.held.waits;
              };
          on = refl;
          handles = refl;
          marked = unmarked_of i rest;
          count_in = omega arith;
          placed =
              inl (
                record {
                  phase_is = refl;
                  memory_is = memory_whole h;
                  task_is = task ∙ s.pending_is;
                  open_is = open' ∙ s.pending_open_is;
                },
                (refl, begun),
              );
        }))

    task-last-kept : (j : ℕ) → c - v.count ≡ j → j < length (task_last_stores v) → First (Has (controls v)) j (task_last_stores v)
        → Kept p v z k Step (storing (task_last_stores v) j further (fresh true) Answer.Stored)
    unfolding task_last_stores storing pick apply
    task-last-kept zero at more made =
        task-stored (to Task v.pending) v.pending v.open_number v.begun 0 tt refl (rw s.pending_is i.held.tasked.task_in) i.held.begun_in at (omega arith) (refl, tt)
    task-last-kept (suc zero) at more (task, _) =
        task-stored (to Open v.pending_open) v.task v.pending_open v.begun 1 tt refl s.task_in i.held.begun_in at (omega arith) (task, (refl, tt))
    task-last-kept (suc (suc zero)) at more (task, (open', _)) =
        task-stored (to Begun 0) v.task v.open_number 0 2 tt refl s.task_in (omega arith) at (omega arith) (task, (open', (refl, tt)))
    task-last-kept (suc (suc (suc zero))) at more (task, (open', (begun, _))) = task-ended task open' begun
    task-last-kept (suc (suc (suc (suc j)))) at more made = absurd (omega arith)

  -- ---- the last stores of an event's commit

  module _ (h : v.count ≤ c) (s : EventCommitAt v z c) where
    head_stored : c - v.count ≡ 0 → Kept p v z k Step (out (to Head v.pending) further Answer.Stored)
    unfolding apply event_last_stores
    head_stored at =
        let u = apply v (to Head v.pending) in
        let waits : Waiting p v.queue v.queue_records (first_waiting u) v.tail z.records =
        rw (first-pending u s.phase_is) (rw (first-pending v s.phase_is) at i.held.waits) in
        stored-kept (to Head v.pending) further (unmarked_of i rest) tt (begun-committing u 2 s.phase_is refl ∙ sym (begun-committing v 2 s.phase_is refl))
        (goes_on u (record { tasked = i.held.tasked; head_in = rw (first-pending v s.phase_is) at i.held.waits.first_in; begun_in = i.held.begun_in; waits = waits }) refl (
          copied_further h,
          inr
              (record {
                phase_is = s.phase_is;
                task_is = s.task_is;
                open_is = s.open_is;
                open_none = s.open_none;
                pending_is = inl refl;
                lasting = record { last = 1; last_is = omega arith; inside = omega arith; made = (refl, tt) };
              }),
        ))

    begun-cleared : c - v.count ≡ 1 → v.head ≡ v.pending → Kept p v z k Step (out (to Begun 0) further Answer.Stored)
    unfolding apply event_last_stores first_waiting
    begun-cleared at head =
        let u = apply v (to Begun 0) in
        let held = i.held in
        stored-kept (to Begun 0) further (unmarked_of i rest) tt (begun-committing u 2 s.phase_is refl ∙ sym (begun-committing v 2 s.phase_is refl))
        (goes_on u (record { tasked = held.tasked; head_in = held.head_in; begun_in = omega arith; waits = held.waits }) refl (
          copied_further h,
          inr
              (record {
                phase_is = s.phase_is;
                task_is = s.task_is;
                open_is = s.open_is;
                open_none = s.open_none;
                pending_is = s.pending_is;
                lasting = record { last = 2; last_is = omega arith; inside = omega arith; made = (head, (refl, tt)) };
              }),
        ))

    event-ended : v.head ≡ v.pending → v.begun ≡ 0 → Kept p v z k Step (out (to Phase 0) (fresh true) Answer.Stored)
    unfolding apply fresh first_waiting pick
    event-ended head begun =
        stored-kept (to Phase 0) (fresh true) (unmarked_of i rest) tt (begun_nothing (with_phase v 0) begun ∙ sym (begun_nothing v begun))
        (inr
        (record {
          held =
              record {
                tasked = i.held.tasked;
                head_in = i.held.head_in;
                begun_in = i.held.begun_in;
                waits = rw (first-pending v s.phase_is ∙ sym head) at i.held.waits;
              };
          on = refl;
          handles = refl;
          marked = unmarked_of i rest;
          count_in = omega arith;
          placed = inl (record { phase_is = refl; memory_is = memory_whole h; task_is = s.task_is; open_is = s.open_is }, (refl, begun));
        }))

    event-last-kept : (j : ℕ) → c - v.count ≡ j → j < length (event_last_stores v) → First (Has (controls v)) j (event_last_stores v)
        → Kept p v z k Step (storing (event_last_stores v) j further (fresh true) Answer.Stored)
    unfolding event_last_stores storing pick
    event-last-kept zero at more made = head_stored at
    event-last-kept (suc zero) at more (head, _) = begun-cleared at head
    event-last-kept (suc (suc zero)) at more (head, (begun, _)) = event-ended head begun
    event-last-kept (suc (suc (suc j))) at more made = absurd (omega arith)

  last-kept : (TaskCommitAt p v z c ⊎ EventCommitAt v z c) → v.count ≤ c → Kept p v z k Step (copy_step p v d c)
  last-kept (inl s) h =
      let l = s.lasting in
      rw (last_is h l.last l.last_is, task_last_is v s.phase_is) (task-last-kept h s l.last l.last_is l.inside l.made)
  last-kept (inr s) h =
      let l = s.lasting in
      rw (last_is h l.last l.last_is, event_last_is v s.phase_is) (event-last-kept h s l.last l.last_is l.inside l.made)

  pub commit-kept : (TaskCommitAt p v z c ⊎ EventCommitAt v z c) → Kept p v z k Step (copy_step p v d c)
  commit-kept t = below_or c v.count (copy_kept t) (last-kept t)

  -- ---- how many stores are left

  less-left : (r : ℕ) → Remaining v c (suc r) → Remaining v (c + 1) r
  less-left r (inl n) = absurd (omega arith)
  less-left r (inr n) = inr (n.0, omega arith)

  none_left : v.count ≤ c → (ws : List Write) → last_stores v ≡ ws → suc (c - v.count) ≡ length ws → (r : ℕ) → Remaining v c (suc r) → r ≡ 0
  none_left h ws e f r (inl n) = absurd (omega arith)
  none_left h ws e f r (inr n) = let l : length (last_stores v) ≡ length ws = ap length e in omega arith

  leaves_copy : (r : ℕ) → Remaining v c (suc r) → c < v.count → LeavesStores v (copy_step p v d c) r
  unfolding apply with_place last_stores task_last_stores event_last_stores
  leaves_copy r n h =
      rw (copy_is h)
      (record { answer_is = refl; on = i.on; rests = rest; place = c + 1; place_is = refl; remaining = less-left r n })

  leaves-task : v.count ≤ c → v.phase ≡ 1 → (j : ℕ) → c - v.count ≡ j → j < length (task_last_stores v) → (r : ℕ) → Remaining v c (suc r)
      → LeavesStores v (storing (task_last_stores v) j further (fresh true) Answer.Stored) r
  unfolding task_last_stores event_last_stores last_stores apply with_place storing pick fresh
  leaves-task h e zero at more r n = record { answer_is = refl; on = i.on; rests = rest; place = c + 1; place_is = refl; remaining = less-left r n }
  leaves-task h e (suc zero) at more r n = record { answer_is = refl; on = i.on; rests = rest; place = c + 1; place_is = refl; remaining = less-left r n }
  leaves-task h e (suc (suc zero)) at more r n = record { answer_is = refl; on = i.on; rests = rest; place = c + 1; place_is = refl; remaining = less-left r n }
  leaves-task h e (suc (suc (suc zero))) at more r n =
      record {
        answer_is = refl;
        on = refl;
        rests = refl;
        place = 0;
        place_is = refl;
        remaining = inl (refl, none_left h _ (task_last_is v e) (omega arith) r n);
      }
  leaves-task h e (suc (suc (suc (suc j)))) at more r n = absurd (omega arith)

  leaves-event : v.count ≤ c → v.phase ≡ 2 → (j : ℕ) → c - v.count ≡ j → j < length (event_last_stores v) → (r : ℕ) → Remaining v c (suc r)
      → LeavesStores v (storing (event_last_stores v) j further (fresh true) Answer.Stored) r
  unfolding task_last_stores event_last_stores last_stores apply with_place storing pick fresh
  leaves-event h e zero at more r n = record { answer_is = refl; on = i.on; rests = rest; place = c + 1; place_is = refl; remaining = less-left r n }
  leaves-event h e (suc zero) at more r n = record { answer_is = refl; on = i.on; rests = rest; place = c + 1; place_is = refl; remaining = less-left r n }
  leaves-event h e (suc (suc zero)) at more r n =
      record {
        answer_is = refl;
        on = refl;
        rests = refl;
        place = 0;
        place_is = refl;
        remaining = inl (refl, none_left h _ (event_last_is v e) (omega arith) r n);
      }
  leaves-event h e (suc (suc (suc j))) at more r n = absurd (omega arith)

  leaves_last : (TaskCommitAt p v z c ⊎ EventCommitAt v z c) → (r : ℕ) → Remaining v c (suc r) → v.count ≤ c → LeavesStores v (copy_step p v d c) r
  leaves_last (inl s) r n h =
      let l = s.lasting in
      rw (last_is h l.last l.last_is, task_last_is v s.phase_is) (leaves-task h s.phase_is l.last l.last_is l.inside r n)
  leaves_last (inr s) r n h =
      let l = s.lasting in
      rw (last_is h l.last l.last_is, event_last_is v s.phase_is) (leaves-event h s.phase_is l.last l.last_is l.inside r n)

  pub leaves-stores : (TaskCommitAt p v z c ⊎ EventCommitAt v z c) → (r : ℕ) → Remaining v c (suc r) → LeavesStores v (copy_step p v d c) r
  leaves-stores t r n = below_or c v.count (leaves_copy r n) (leaves_last t r n)
