-- Laws of specs/Device.antt, for all words and device states. First its cases as equations. Then what a step's outcome can be:
-- `Made` has a case for each store and for each step without a store, with the facts that it comes with; `Why` says why a step is
-- refused; `step_outcome` says that every step is one of these. Whatever is proved of a step's outcome splits on them. Demand 3 alone goes
-- its own way through a step (Kept, KeptBody), so that a wrong definition fails there. Assumes nothing.
use Prim.Native.Nat.{ℕ, zero, suc, ◌+◌, ◌-◌, ◌*◌, ◌≤◌, ◌<◌}
use mathlib.Core.Path.{◌≡◌, refl, ap, subst, ◌∙◌}
use mathlib.Core.Logic.{◌≢◌}
use mathlib.Core.Bool.{true, false}
use mathlib.Core.List.{List}
use native.Mathlib.Omega.{arith}
use borrow.Author.Tests.{ltb-true, ltb-false, eqb-true, eqb-false, lt-ltb, le-ltb, eq-eqb, ne_eqb}
use lib.ListN.{length, set}
use Rattle.model.proofs.FirstStores.{storing_goes, storing-ends}
use Rattle.model.proofs.ProgramLaws.{instruction_leads}
use Rattle.model.proofs.RingLaws.{RecordStore, record_store, tail-store, record_stores_lem}
use Rattle.model.proofs.Passed.{look-passed, body-passed}
use Rattle.model.proofs.TestLaws.{pick_case, pick_true, pick-false, clash, same_or, below_or}
use Rattle.model.specs.Accepted.{LegalEffect, MayRun, Stands, Attends, Looked, AttendsTo}
use Rattle.model.specs.Burst.{carried}
use Rattle.model.specs.Calls.{unless_refused, is_refusal}
use Rattle.model.specs.Device.{Outcome, out, refuse, judged, turned_on, with_place, with_handler, resting, storing, record_stores, task_stores, event_stores, task_last_stores, event_last_stores, last_stores, current_task, oldest_event, end_stores, look, boot_check, boot, post_check, post, handler_step, pair_sound, copy_step, record_sound, event_next, choosing, choose_step, saves, place_fits, body_sound, shown, save_step, act, save_rest, place_step, next_step, step, drop_step, dropped_record}
use Rattle.model.specs.Program.{events, memory_words, transaction, body_number, effect_at, new_open}
use Rattle.model.specs.Store.{Store, view, address, value, event, empty, slot_after, forward, find, log_at, queue_at, Phase, Task, Open, Count, Pending, PendingOpen, Head, Tail, Begun, Memory, Address, Value, Write, none, to}
use Rattle.model.specs.Test.{pick, must, both}
use Rattle.model.specs.Types.{Answer, Body, Checked, Device, Dropping, Effect, Err, Free, Half, Handler, None, Ok, Option, Place, Record, Refusal, Replacing, Resting, Run, Some, Storing}

-- ---- checks before an outcome

pub judged_case : (P : Outcome → Type 0) (x : Checked) {d : Device} {o : Outcome} → ((r : Refusal) → x ≡ Err r → P (refuse d r))
    → (x ≡ Ok tt → P o) → P (judged x d o)
unfolding judged
judged_case P (Ok _) f g = g refl
judged_case P (Err r) f g = f r refl

pub judged-refused : {x : Checked} (d : Device) (o : Outcome) {r : Refusal} → x ≡ Err r → judged x d o ≡ refuse d r
unfolding judged
judged-refused d o e = rw e

pub judged-accepted : {x : Checked} (d : Device) (o : Outcome) → x ≡ Ok tt → judged x d o ≡ o
unfolding judged
judged-accepted d o e = rw e

judged_done : (x : Checked) (d e : Device) (r : Refusal) → (judged x d (out none e Answer.Done)).answer ≡ Answer.Refused r → x ≡ Err r
unfolding judged
judged_done (Ok _) d e r q = cc
judged_done (Err f) d e r q = cc

-- why boot and post are refused
pub boot_why : (p s : List ℕ) (d : Device) (r : Refusal) → (boot p s d).answer ≡ Answer.Refused r → boot_check p s d ≡ Err r
unfolding boot
boot_why p s d r = judged_done _ _ _ r

pub post_why : (p s : List ℕ) (d : Device) (rs : List Record) (r : Refusal) → (post p s d rs).answer ≡ Answer.Refused r → post_check p s d rs ≡ Err r
unfolding post
post_why p s d rs r = judged_done _ _ _ r

-- ---- a step, after the early checks

module _ (p s : List ℕ) (d : Device) where
  pub step-refused : {r : Refusal} → look p s d ≡ Err r → step p s d ≡ refuse d r
  unfolding step
  step-refused = judged-refused d _

  pub step_goes : look p s d ≡ Ok tt → step p s d ≡ next_step p (view s) d d.handler
  unfolding step
  step_goes = judged-accepted d _

  -- with the handler at rest, at an instruction whose checks pass
  pub step-acts : look p s d ≡ Ok tt → d.handler ≡ Resting → (b : Body) (j c : ℕ) (f : Effect) → d.place ≡ Run b j c
      → effect_at p (body_number p b) j d.registers ≡ f → body_sound p (view s) (Run b j c) b j f ≡ Ok tt → step p s d ≡ act p (view s) d b j c f
  unfolding next_step place_step
  step-acts e rests b j c f q does sound =
      step_goes e ∙ ap (next_step p (view s) d) rests ∙ ap (place_step p (view s) d) q ∙ rw does (judged-accepted d _ sound)

-- ---- with no body running

module _ (p : List ℕ) (v : Store) (d : Device) (n : ℕ) where
  pub free_chooses : v.phase ≡ 0 → place_step p v d (Free n) ≡ choose_step p v d
  unfolding place_step
  free_chooses e = pick_true _ _ (eq-eqb v.phase 0 e)

  pub free_copies : v.phase ≢ 0 → place_step p v d (Free n) ≡ copy_step p v d n
  unfolding place_step
  free_copies e = pick-false _ _ (ne_eqb v.phase 0 e)

module _ (p : List ℕ) (v : Store) (d : Device) where
  pub choose_open : v.open_number ≢ 0 → choose_step p v d ≡ choosing v d (current_task v)
  unfolding choose_step event_next both
  choose_open ne = rw (ne_eqb v.open_number 0 ne) (pick-false _ _ refl)

  pub choose_empty : v.open_number ≡ 0 → empty v ≡ true → choose_step p v d ≡ choosing v d (current_task v)
  unfolding choose_step event_next both
  choose_empty e f = pick-false _ _ (rw (eq-eqb v.open_number 0 e, f))

  pub choose_refused : v.open_number ≡ 0 → empty v ≡ false → events p ≤ event v v.head
      → choose_step p v d ≡ refuse d (Refusal.Control (queue_at (memory_words p) v.log_pairs + 2 * v.head))
  unfolding choose_step event_next judged record_sound must both
  choose_refused e f l = pick_true _ _ (rw (eq-eqb v.open_number 0 e, f)) ∙ rw (le-ltb (event v v.head) (events p) l)

  pub choose_event : v.open_number ≡ 0 → empty v ≡ false → event v v.head < events p
      → choose_step p v d ≡ choosing v d (oldest_event v)
  unfolding choose_step event_next judged record_sound must both
  choose_event e f l = pick_true _ _ (rw (eq-eqb v.open_number 0 e, f)) ∙ rw (lt-ltb (event v v.head) (events p) l)

  pub drop-refused : events p ≤ event v v.head → drop_step p v d ≡ refuse d (Refusal.Control (queue_at (memory_words p) v.log_pairs + 2 * v.head))
  unfolding drop_step judged record_sound must
  drop-refused l = rw (le-ltb (event v v.head) (events p) l)

  pub drop_passes : event v v.head < events p
      → drop_step p v d ≡ out (to Head (slot_after v.queue_records v.head)) (with_handler d (Replacing 0) d.burst) Answer.Stored
  unfolding drop_step judged record_sound must
  drop_passes l = rw (lt-ltb (event v v.head) (events p) l)

-- ---- a commit's stores in phases 1 and 2, n of which are made since the commit store

-- the device elsewhere
abbrev pub at_place : Device → Place → Device
at_place d x = with_place d d.registers x d.count

module _ (p : List ℕ) (v : Store) (d : Device) (n : ℕ) where
  pub copy_refused : n < v.count → memory_words p ≤ address v n
      → copy_step p v d n ≡ refuse d (Refusal.Control (log_at (memory_words p) + 2 * n))
  unfolding copy_step judged pair_sound must
  copy_refused l m = pick_true _ _ (lt-ltb n v.count l) ∙ rw (le-ltb (address v n) (memory_words p) m)

  pub copy_made : n < v.count → address v n < memory_words p
      → copy_step p v d n ≡ out (to (Memory (address v n)) (value v n)) (at_place d (Free (n + 1))) Answer.Stored
  unfolding copy_step judged pair_sound must
  copy_made l m = pick_true _ _ (lt-ltb n v.count l) ∙ rw (lt-ltb (address v n) (memory_words p) m)

  abbrev last : List Write → Outcome
  last ws = storing ws (n - v.count) (at_place d (Free (n + 1))) turned_on Answer.Stored

  pub task-last : v.count ≤ n → v.phase ≡ 1 → copy_step p v d n ≡ last (task_last_stores v)
  unfolding copy_step last_stores
  task-last l e = pick-false _ _ (le-ltb n v.count l) ∙ ap last (pick_true _ _ (eq-eqb v.phase 1 e))

  pub event-last : v.count ≤ n → v.phase ≢ 1 → copy_step p v d n ≡ last (event_last_stores v)
  unfolding copy_step last_stores
  event-last l e = pick-false _ _ (le-ltb n v.count l) ∙ ap last (pick-false _ _ (ne_eqb v.phase 1 e))

-- how many stores come after the copies
pub task_lasts : (v : Store) → v.phase ≡ 1 → length (last_stores v) ≡ 4
unfolding last_stores task_last_stores
task_lasts v e = ap length (pick_true _ _ (eq-eqb v.phase 1 e))

pub event_lasts : (v : Store) → v.phase ≢ 1 → length (last_stores v) ≡ 3
unfolding last_stores event_last_stores
event_lasts v e = ap length (pick-false _ _ (ne_eqb v.phase 1 e))

pub most-last : (v : Store) → length (last_stores v) ≤ 4
most-last v = same_or v.phase 1 (λ e. omega (arith, task_lasts v e)) (λ ne. omega (arith, event_lasts v ne))

pub least-last : (v : Store) → 3 ≤ length (last_stores v)
least-last v = same_or v.phase 1 (λ e. omega (arith, task_lasts v e)) (λ ne. omega (arith, event_lasts v ne))

-- ---- an instruction that 23 or 24 refuses

module _ (p : List ℕ) (v : Store) (d : Device) (b : Body) (j c : ℕ) where
  pub load_refused : (a x : ℕ) → memory_words p ≤ x → act p v d b j c (Effect.Load a x) ≡ refuse d Refusal.Address
  unfolding act
  load_refused a x l = pick-false _ _ (le-ltb x (memory_words p) l)

  pub save_refused : (x y : ℕ) → memory_words p ≤ x → act p v d b j c (Effect.Save x y) ≡ refuse d Refusal.Address
  unfolding act
  save_refused x y l = pick-false _ _ (le-ltb x (memory_words p) l)

  pub save_full : (x y : ℕ) → x < memory_words p → find v.log d.count x ≡ None → v.log_pairs ≤ d.count
      → act p v d b j c (Effect.Save x y) ≡ refuse d Refusal.LogFull
  unfolding act save_step
  save_full x y l e k = pick_true _ _ (lt-ltb x (memory_words p) l) ∙ ap (save_step v d b j x y) e ∙ pick-false _ _ (le-ltb d.count v.log_pairs k)

-- ---- what a step's outcome comes with

-- a commit of which c stores are made since the commit store, not the last
pub record Commits (v : Store) (d : Device) (c : ℕ) : Type 0 where
  pub rests : d.handler ≡ Resting
  pub place : d.place ≡ Free c
  pub phase : v.phase ≢ 0
  pub left : c < v.count + length (last_stores v)

-- no body runs, and no commit is to be made
pub record Chooses (v : Store) (d : Device) : Type 0 where
  pub rests : d.handler ≡ Resting
  pub place : d.place ≡ Free 0
  pub phase : v.phase ≡ 0
  pub none_begun : v.begun ≡ 0

-- body b at place x, whose instruction j does f, with all its checks passed
pub record Acts (p : List ℕ) (v : Store) (d : Device) (x : Place) (b : Body) (j : ℕ) (f : Effect) : Type 0 where
  pub rests : d.handler ≡ Resting
  pub place : d.place ≡ x
  pub stands : Stands p v d.count x
  pub does : effect_at p (body_number p b) j d.registers ≡ f
  pub sound : body_sound p v x b j f ≡ Ok tt
  pub legal : LegalEffect p (body_number p b) j f

-- at an instruction, c stores of the body's end made
abbrev pub RunsAt : List ℕ → Store → Device → Body → ℕ → ℕ → Effect → Type 0
RunsAt p v d b j c f = Acts p v d (Run b j c) b j f

-- a handler that stores n records, c of whose stores are made: what it is after a store that isn't its last, and what was dropped for them
pub data Works (v : Store) : Handler → ℕ → ℕ → Handler → Option Record → Type 0 where
  works_storing : {n c : ℕ} → Works v (Storing n c) n c (Storing n (c + 1)) None
  works_replacing : {c : ℕ} → Works v (Replacing c) 1 c (Replacing (c + 1)) (dropped_record v)

abbrev pub AttendsAt : List ℕ → Store → Device → ℕ → ℕ → Type 0
AttendsAt p v d n c = AttendsTo p v.queue_records v.head v.tail c (carried d.burst n)

-- what it does: a store for one of its records, or the tail store
pub data HandlerMade (p : List ℕ) (v : Store) (d : Device) (n c : ℕ) (later : Handler) (dropped : Option Record) : Outcome → Type 0 where
  record_made : {w : Write} → AttendsAt p v d n (c + 1) → RecordStore v.queue_records v.tail (carried d.burst n) w
      → HandlerMade p v d n c later dropped (out w (with_handler d later d.burst) Answer.Stored)
  tail_made : AttendsAt p v d n c
      → HandlerMade p v d n c later dropped (out (to Tail (forward v.queue_records v.tail (length (carried d.burst n)))) (resting d) (Answer.Accepted dropped))

module _ (p : List ℕ) (v : Store) (d : Device) (n c : ℕ) (later : Handler) (dropped : Option Record) (a : AttendsAt p v d n c) where
  abbrev rs : List Record
  rs = carried d.burst n

  abbrev stores : List Write
  stores = record_stores v.queue_records v.tail rs

  stores_are : length stores ≡ 2 * length rs + 1
  stores_are = record_stores_lem v.queue_records rs v.tail

  goes : c < 2 * length rs → HandlerMade p v d n c later dropped (handler_step v d n c later dropped)
  unfolding handler_step
  goes l =
      rw (storing_goes stores c _ _ _ (omega (arith, stores_are)))
      (record_made (record { least = a.least; most = a.most; known = a.known; room = a.room; inside = omega (arith, stores_are) }) (record_store v.queue_records rs v.tail c l))

  ends : c ≡ 2 * length rs → HandlerMade p v d n c later dropped (handler_step v d n c later dropped)
  unfolding handler_step
  ends l = rw (storing-ends stores c _ _ _ (omega (arith, stores_are)), tail-store v.queue_records rs v.tail c l) (tail_made a)

  pub handler-made : HandlerMade p v d n c later dropped (handler_step v d n c later dropped)
  handler-made = below_or c (2 * length rs) goes (λ l. ends (omega (arith, stores_are, a.inside)))

-- ---- what a step that isn't refused does

pub data Made (p : List ℕ) (v : Store) (d : Device) : Outcome → Type 0 where
  -- "A handler at work makes its next store: event, data, then tail."
  handler : {h : Handler} {n c : ℕ} {later : Handler} {dropped : Option Record} {o : Outcome} → d.handler ≡ h → Works v h n c later dropped
      → HandlerMade p v d n c later dropped o → Made p v d o
  -- N7: "drops the record at head by storing head first"
  head_dropped : d.handler ≡ Dropping → Attends p v d.burst Dropping → event v v.head < events p
      → Made p v d (out (to Head (slot_after v.queue_records v.head)) (with_handler d (Replacing 0) d.burst) Answer.Stored)
  -- "n copies, 9 from 12, 10 from 13, 8 becomes 0", in phase 2 "14 from 12, 8 becomes 0"
  commit_copy : {c : ℕ} → Commits v d c → c < v.count → address v c < memory_words p
      → Made p v d (out (to (Memory (address v c)) (value v c)) (at_place d (Free (c + 1))) Answer.Stored)
  commit_task : {c : ℕ} → Commits v d c → v.phase ≡ 1 → c ≡ v.count
      → Made p v d (out (to Task v.pending) (at_place d (Free (c + 1))) Answer.Stored)
  commit_open : {c : ℕ} → Commits v d c → v.phase ≡ 1 → c ≡ v.count + 1
      → Made p v d (out (to Open v.pending_open) (at_place d (Free (c + 1))) Answer.Stored)
  commit_head : {c : ℕ} → Commits v d c → v.phase ≡ 2 → c ≡ v.count
      → Made p v d (out (to Head v.pending) (at_place d (Free (c + 1))) Answer.Stored)
  commit_begun : {c : ℕ} → Commits v d c → c + 2 ≡ v.count + length (last_stores v)
      → Made p v d (out (to Begun 0) (at_place d (Free (c + 1))) Answer.Stored)
  commit_phase : {c : ℕ} → Commits v d c → c + 1 ≡ v.count + length (last_stores v) → Made p v d (out (to Phase 0) turned_on Answer.Stored)
  -- "With no body running, one is chosen"
  chosen_event : Chooses v d → v.open_number ≡ 0 → v.head ≢ v.tail → event v v.head < events p
      → Made p v d (choosing v d (oldest_event v))
  chosen_task : Chooses v d → (v.open_number ≡ 0 → v.head ≡ v.tail) → Made p v d (choosing v d (current_task v))
  -- "One instruction runs."
  computed : {b : Body} {j c a x : ℕ} → RunsAt p v d b j c (Effect.Compute a x)
      → Made p v d (out none (with_place d (set d.registers a x) (Run b (j + 1) 0) d.count) Answer.Worked)
  jumped : {b : Body} {j c k : ℕ} → RunsAt p v d b j c (Effect.Jump k) → Made p v d (out none (at_place d (Run b k 0)) Answer.Worked)
  loaded : {b : Body} {j c a x : ℕ} → RunsAt p v d b j c (Effect.Load a x) → x < memory_words p
      → Made p v d (out none (with_place d (set d.registers a (shown v (find v.log d.count x) x)) (Run b (j + 1) 0) d.count) Answer.Worked)
  overwritten : {b : Body} {j c x y i : ℕ} → RunsAt p v d b j c (Effect.Save x y) → x < memory_words p → find v.log d.count x ≡ Some i
      → Made p v d (out (to (Value i) y) (at_place d (Run b (j + 1) 0)) Answer.Stored)
  half_saved : {b : Body} {j c x y : ℕ} → RunsAt p v d b j c (Effect.Save x y) → x < memory_words p → find v.log d.count x ≡ None
      → d.count < v.log_pairs → Made p v d (out (to (Address d.count) x) (at_place d (Half b j)) Answer.Stored)
  saved : {b : Body} {j x y : ℕ} → Acts p v d (Half b j) b j (Effect.Save x y)
      → Made p v d (out (to (Value d.count) y) (with_place d d.registers (Run b (j + 1) 0) (d.count + 1)) Answer.Stored)
  -- GO, at a task: "11 is n, 12 the next task, 13 the new open number, 8 becomes 1 (the commit store)"
  go_count : {t j k : ℕ} → RunsAt p v d (Body.Task t) j 0 (Effect.EndTask k)
      → Made p v d (out (to Count d.count) (at_place d (Run (Body.Task t) j 1)) Answer.Stored)
  go_pending : {t j k : ℕ} → RunsAt p v d (Body.Task t) j 1 (Effect.EndTask k)
      → Made p v d (out (to Pending k) (at_place d (Run (Body.Task t) j 2)) Answer.Stored)
  go_open : {t j k : ℕ} → RunsAt p v d (Body.Task t) j 2 (Effect.EndTask k)
      → Made p v d (out (to PendingOpen (new_open (transaction p t) (transaction p k))) (at_place d (Run (Body.Task t) j 3)) Answer.Stored)
  go_phase : {t j k : ℕ} → RunsAt p v d (Body.Task t) j 3 (Effect.EndTask k)
      → Made p v d (out (to Phase 1) turned_on (Answer.Committed (Body.Task t)))
  -- DONE, at an event: "11, 12 with the slot after head, 8 becomes 2"
  done_count : {e j : ℕ} → RunsAt p v d (Body.Event e) j 0 Effect.EndEvent
      → Made p v d (out (to Count d.count) (at_place d (Run (Body.Event e) j 1)) Answer.Stored)
  done_pending : {e j : ℕ} → RunsAt p v d (Body.Event e) j 1 Effect.EndEvent
      → Made p v d (out (to Pending (slot_after v.queue_records v.head)) (at_place d (Run (Body.Event e) j 2)) Answer.Stored)
  done_phase : {e j : ℕ} → RunsAt p v d (Body.Event e) j 2 Effect.EndEvent
      → Made p v d (out (to Phase 2) turned_on (Answer.Committed (Body.Event e)))

-- ---- why a step is refused

-- a place with body b, at an instruction or half way through a SAVE
pub data BodyIn : Place → Body → Type 0 where
  running : {b : Body} {j c : ℕ} → BodyIn (Run b j c) b
  half_way : {b : Body} {j : ℕ} → BodyIn (Half b j) b

-- what a step meets past the early checks, its handler at rest
pub data Meets (p : List ℕ) (v : Store) (d : Device) : Refusal → Type 0 where
  -- the event of the record to be chosen isn't below E, the address of the pair to be copied not below M
  by_record : Chooses v d → v.open_number ≡ 0 → v.head ≢ v.tail → events p ≤ event v v.head
      → Meets p v d (Refusal.Control (queue_at (memory_words p) v.log_pairs + 2 * v.head))
  by_pair : {c : ℕ} → Commits v d c → c < v.count → memory_words p ≤ address v c → Meets p v d (Refusal.Control (log_at (memory_words p) + 2 * c))
  -- the checks of a body at place x
  by_body : (x : Place) (b : Body) (j : ℕ) (f : Effect) {r : Refusal} → d.place ≡ x → BodyIn x b → v.phase ≡ 0 → MayRun p v b
      → body_sound p v x b j f ≡ Err r → Meets p v d r
  -- "23: address k + b not below M", of a LOAD and of a SAVE
  load_above : {b : Body} {j c a x : ℕ} → RunsAt p v d b j c (Effect.Load a x) → memory_words p ≤ x → Meets p v d Refusal.Address
  save_above : {b : Body} {j c x y : ℕ} → RunsAt p v d b j c (Effect.Save x y) → memory_words p ≤ x → Meets p v d Refusal.Address
  -- "24: SAVE to an address not in the log, with L pairs there"
  log-full : {b : Body} {j c x y : ℕ} → RunsAt p v d b j c (Effect.Save x y) → x < memory_words p → find v.log d.count x ≡ None
      → v.log_pairs ≤ d.count → Meets p v d Refusal.LogFull

pub data Why (p s : List ℕ) (d : Device) : Refusal → Type 0 where
  looked : {r : Refusal} → look p s d ≡ Err r → Why p s d r
  met : {r : Refusal} → Looked p s d → d.handler ≡ Resting → Meets p (view s) d r → Why p s d r
  -- the event of the record to be dropped isn't below E
  by_dropped : Looked p s d → d.handler ≡ Dropping → events p ≤ event (view s) (view s).head
      → Why p s d (Refusal.Control (queue_at (memory_words p) (view s).log_pairs + 2 * (view s).head))

-- ---- every step is refused so, or does one of these

pub data StepOutcome (p s : List ℕ) (d : Device) : Outcome → Type 0 where
  refused : {r : Refusal} → Why p s d r → StepOutcome p s d (refuse d r)
  made : {o : Outcome} → Looked p s d → Made p (view s) d o → is_refusal o.answer ≡ false → StepOutcome p s d o

module _ (p s : List ℕ) (d : Device) (early : Looked p s d) where
  abbrev v : Store
  v = view s

  abbrev Is : Outcome → Type 0
  Is = StepOutcome p s d

  handler_outcome : {h : Handler} {n c : ℕ} {later : Handler} {dropped : Option Record} → d.handler ≡ h → Works v h n c later dropped → (o : Outcome)
      → HandlerMade p v d n c later dropped o → Is o
  unfolding is_refusal unless_refused
  handler_outcome q w o (record_made a s) = made early (handler q w (record_made a s)) refl
  handler_outcome q w o (tail_made a) = made early (handler q w (tail_made a)) refl

  drop_outcome : d.handler ≡ Dropping → Is (drop_step p v d)
  unfolding is_refusal unless_refused
  drop_outcome q =
      below_or (event v v.head) (events p)
      (λ l. rw (drop_passes p v d l) (made early (head_dropped q (subst (Attends p v d.burst) q early.handler) l) refl))
      (λ l. rw (drop-refused p v d l) (refused (by_dropped early q l)))

  module _ (c : ℕ) (h : Commits v d c) where
    task_last_outcome : (i : ℕ) → c ≡ v.count + i → v.phase ≡ 1 → Is (storing (task_last_stores v) i (at_place d (Free (c + 1))) turned_on Answer.Stored)
    unfolding storing task_last_stores pick is_refusal unless_refused
    task_last_outcome zero e one = made early (commit_task h one (omega arith)) refl
    task_last_outcome (suc zero) e one = made early (commit_open h one e) refl
    task_last_outcome (suc (suc zero)) e one = made early (commit_begun h (omega (arith, task_lasts v one))) refl
    task_last_outcome (suc (suc (suc zero))) e one = made early (commit_phase h (omega (arith, task_lasts v one))) refl
    task_last_outcome (suc (suc (suc (suc i)))) e one = absurd (omega (arith, task_lasts v one, h.left))

    event_last_outcome : (i : ℕ) → c ≡ v.count + i → v.phase ≡ 2 → v.phase ≢ 1 → Is (storing (event_last_stores v) i (at_place d (Free (c + 1))) turned_on Answer.Stored)
    unfolding storing event_last_stores pick is_refusal unless_refused
    event_last_outcome zero e two ne = made early (commit_head h two (omega arith)) refl
    event_last_outcome (suc zero) e two ne = made early (commit_begun h (omega (arith, event_lasts v ne))) refl
    event_last_outcome (suc (suc zero)) e two ne = made early (commit_phase h (omega (arith, event_lasts v ne))) refl
    event_last_outcome (suc (suc (suc i))) e two ne = absurd (omega (arith, event_lasts v ne, h.left))

    copy_outcome : Is (copy_step p v d c)
    unfolding is_refusal unless_refused
    copy_outcome =
        below_or c v.count
        (λ l.
        below_or (address v c) (memory_words p) (λ m. rw (copy_made p v d c l m) (made early (commit_copy h l m) refl))
        (λ m. rw (copy_refused p v d c l m) (refused (met early h.rests (by_pair h l m)))))
        (λ l.
        let e : c ≡ v.count + (c - v.count) = omega arith in
        same_or v.phase 1 (λ one. rw (task-last p v d c l one) (task_last_outcome (c - v.count) e one))
        (λ ne. rw (event-last p v d c l ne) (event_last_outcome (c - v.count) e (omega (arith, h.phase, early.control.phase_in)) ne)))

  choose_outcome : Chooses v d → Is (choose_step p v d)
  unfolding choosing is_refusal unless_refused
  choose_outcome h =
      same_or v.open_number 0
      (λ o.
      same_or v.head v.tail (λ e. rw (choose_empty p v d o (eq-eqb _ _ e)) (made early (chosen_task h (λ _. e)) refl))
      (λ ne.
      below_or (event v v.head) (events p) (λ l. rw (choose_event p v d o (ne_eqb _ _ ne) l) (made early (chosen_event h o ne l) refl))
      (λ l. rw (choose_refused p v d o (ne_eqb _ _ ne) l) (refused (met early h.rests (by_record h o ne l))))))
      (λ no-o. rw (choose_open p v d no-o) (made early (chosen_task h (λ o. absurd (no-o o))) refl))

  save_outcome : (b : Body) (j c x y : ℕ) → RunsAt p v d b j c (Effect.Save x y) → x < memory_words p → (f : Option ℕ) → find v.log d.count x ≡ f
      → Is (save_step v d b j x y f)
  unfolding save_step is_refusal unless_refused
  save_outcome b j c x y h l (Some i) e = made early (overwritten h l e) refl
  save_outcome b j c x y h l None e =
      pick_case Is (λ q. made early (half_saved h l e (ltb-true _ _ q)) refl) (λ q. refused (met early h.rests (log-full h l e (ltb-false _ _ q))))

  go_outcome : (t j k c : ℕ) → c < 4 → RunsAt p v d (Body.Task t) j c (Effect.EndTask k) → Is (act p v d (Body.Task t) j c (Effect.EndTask k))
  unfolding act storing task_stores body_number pick is_refusal unless_refused
  go_outcome t j k zero l h = made early (go_count h) refl
  go_outcome t j k (suc zero) l h = made early (go_pending h) refl
  go_outcome t j k (suc (suc zero)) l h = made early (go_open h) refl
  go_outcome t j k (suc (suc (suc zero))) l h = made early (go_phase h) refl
  go_outcome t j k (suc (suc (suc (suc c)))) l h = absurd (omega arith)

  done_outcome : (e j c : ℕ) → c < 3 → RunsAt p v d (Body.Event e) j c Effect.EndEvent → Is (act p v d (Body.Event e) j c Effect.EndEvent)
  unfolding act storing event_stores pick is_refusal unless_refused
  done_outcome e j zero l h = made early (done_count h) refl
  done_outcome e j (suc zero) l h = made early (done_pending h) refl
  done_outcome e j (suc (suc zero)) l h = made early (done_phase h) refl
  done_outcome e j (suc (suc (suc c))) l h = absurd (omega arith)

  act_outcome : (b : Body) (j c : ℕ) (f : Effect) → RunsAt p v d b j c f → Is (act p v d b j c f)
  unfolding act body_number end_stores is_refusal unless_refused
  act_outcome b j c (Effect.Compute a x) h = made early (computed h) refl
  act_outcome b j c (Effect.Jump k) h = made early (jumped h) refl
  act_outcome b j c (Effect.Load a x) h =
      pick_case Is (λ q. made early (loaded h (ltb-true _ _ q)) refl) (λ q. refused (met early h.rests (load_above h (ltb-false _ _ q))))
  act_outcome b j c (Effect.Save x y) h =
      pick_case Is (λ q. save_outcome b j c x y h (ltb-true _ _ q) (find v.log d.count x) refl)
      (λ q. refused (met early h.rests (save_above h (ltb-false _ _ q))))
  act_outcome (Body.Task t) j c (Effect.EndTask k) h = go_outcome t j k c h.stands.2 h
  act_outcome (Body.Event e) j c (Effect.EndTask k) h = absurd (omega (arith, h.legal.1))
  act_outcome (Body.Task t) j c Effect.EndEvent h = absurd (omega (arith, h.legal, h.stands.1.0, early.control.task_in))
  act_outcome (Body.Event e) j c Effect.EndEvent h = done_outcome e j c h.stands.2 h
  act_outcome b j c Effect.Unknown h = absurd h.legal

  -- "half a SAVE without a SAVE" is refused before
  rest_outcome : (b : Body) (j : ℕ) (f : Effect) → Acts p v d (Half b j) b j f → place_fits (Half b j) f ≡ true → Is (save_rest d b j f)
  unfolding save_rest place_fits saves is_refusal unless_refused
  rest_outcome b j (Effect.Compute a x) h e = clash e refl
  rest_outcome b j (Effect.Jump k) h e = clash e refl
  rest_outcome b j (Effect.Load a x) h e = clash e refl
  rest_outcome b j (Effect.Save x y) h e = made early (saved h) refl
  rest_outcome b j (Effect.EndTask k) h e = clash e refl
  rest_outcome b j Effect.EndEvent h e = clash e refl
  rest_outcome b j Effect.Unknown h e = clash e refl

  module _ (rests : d.handler ≡ Resting) where
    acts : (x : Place) (b : Body) (j : ℕ) → d.place ≡ x → Stands p v d.count x → body_sound p v x b j (effect_at p (body_number p b) j d.registers) ≡ Ok tt
        → Acts p v d x b j (effect_at p (body_number p b) j d.registers)
    acts x b j q h e =
        let is = body-passed p v x b j _ e in
        record { rests = rests; place = q; stands = h; does = refl; sound = e; legal = instruction_leads p (body_number p b) j d.registers is.there is.rule }

    place_outcome : (x : Place) → d.place ≡ x → Stands p v d.count x → Is (place_step p v d x)
    unfolding place_step
    place_outcome (Free c) q h =
        pick_case Is (λ z. let e = eqb-true _ _ z in choose_outcome (record { rests = rests; place = q ∙ ap Free (h.0 e).0; phase = e; none_begun = (h.0 e).1 }))
        (λ z. let ne = eqb-false _ _ z in copy_outcome c (record { rests = rests; place = q; phase = ne; left = h.1 ne }))
    place_outcome (Run b j c) q h =
        judged_case Is _ (λ r e. refused (met early rests (by_body (Run b j c) b j _ q running h.0 h.1 e))) (λ e. act_outcome b j c _ (acts (Run b j c) b j q h e))
    place_outcome (Half b j) q h =
        judged_case Is _ (λ r e. refused (met early rests (by_body (Half b j) b j _ q half_way h.0 h.1 e)))
        (λ e. rest_outcome b j _ (acts (Half b j) b j q h e) (body-passed p v (Half b j) b j _ e).fits)

  next_outcome : (x : Handler) → d.handler ≡ x → Is (next_step p v d x)
  unfolding next_step
  next_outcome Resting q = place_outcome q d.place refl early.place
  next_outcome (Storing n c) q = handler_outcome q works_storing _ (handler-made p v d n c _ _ (subst (Attends p v d.burst) q early.handler))
  next_outcome Dropping q = drop_outcome q
  next_outcome (Replacing c) q = handler_outcome q works_replacing _ (handler-made p v d 1 c _ _ (subst (Attends p v d.burst) q early.handler))

pub step_outcome : (p s : List ℕ) (d : Device) → StepOutcome p s d (step p s d)
unfolding step
step_outcome p s d =
    judged_case (StepOutcome p s d) (look p s d) (λ r e. refused (looked e)) (λ e. next_outcome p s d (look-passed p s d e) d.handler refl)

-- a refused step is its refusal and nothing else, for a reason
pub why : (p s : List ℕ) (d : Device) (r : Refusal) → (step p s d).answer ≡ Answer.Refused r → Why p s d r × (step p s d ≡ refuse d r)
unfolding is_refusal unless_refused
why p s d r = go (step p s d) (step_outcome p s d)
  where
    go : (o : Outcome) → StepOutcome p s d o → o.answer ≡ Answer.Refused r → Why p s d r × (o ≡ refuse d r)
    go o (refused {r = q} w) e = let f : q ≡ r = cc in (rw f at w, ap (refuse d) f)
    go o (made early m u) e = clash (ap is_refusal e) u
