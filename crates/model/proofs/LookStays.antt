-- The early checks of a step pass again after a step that answered chosen, worked, stored or accepted, whatever the words and the
-- device state, if word 16 is 0 after a commit's last store. What they ask of store and device is `Fit` (Looked); first how the stores of a step change it, then a line for each
-- case of a step (`Made` of DeviceLaws). A commit store isn't among them: its answer is committed. Assumes nothing.
use Prim.Native.Nat.{ℕ, ◌+◌, ◌≤◌, ◌<◌}
use mathlib.Core.Path.{◌≡◌, refl, sym, subst, ◌∙◌}
use mathlib.Core.Logic.{◌⊎◌, inl, inr, ⊎_elim, ◌≢◌}
use mathlib.Core.Bool.{true, false, not}
use mathlib.Core.List.{List}
use native.Mathlib.Omega.{arith}
use borrow.Author.Tests.{eqb-true, not-true}
use lib.Dec.{eqb}
use lib.ListN.{length, set}
use lib.Seq.{get_or-set_other}
use Rattle.model.proofs.DeviceLaws.{HandlerMade, at_place, task_lasts, event_lasts, least-last, Commits, Made, record_made, tail_made, handler, commit_copy, commit_task, commit_open, commit_head, commit_begun, commit_phase, chosen_event, chosen_task, computed, jumped, loaded, overwritten, half_saved, saved, go_count, go_pending, go_open, go_phase, done_count, done_pending, done_phase, StepOutcome, refused, made, step_outcome, head_dropped, works_storing, works_replacing, Works, AttendsAt}
use Rattle.model.proofs.Early.{control_still, Fit, early_fit, look_passes}
use Rattle.model.proofs.Passed.{sized}
use Rattle.model.proofs.Kept.{InsideOf}
use Rattle.model.proofs.LogLaws.{find_pair}
use Rattle.model.proofs.RingLaws.{forward_le, tail_apart, event_store, datum_store, slot_in, slot_after_apart, distance-head, distance_le, slot_after_le}
use Rattle.model.proofs.StoreLaws.{with_phase, with_begun, with_next, with_commit, with_queue, with_data, apply, view_after, rule-kept}
use Rattle.model.proofs.TestLaws.{clash, and_left, and_right, then_first, then_rest}
use Rattle.model.specs.Burst.{carried, records_at}
use Rattle.model.specs.Device.{Outcome, fresh, with_place, with_handler, resting, task_last_stores, event_last_stores, last_stores, kind_of, started, end_stores, zeros, look, choosing, step, record_stores}
use Rattle.model.specs.Accepted.{ControlledBy, EligibleBy, MayRunBy, MayRun, StandsBy, Stands, Attends, Looked}
use Rattle.model.specs.Program.{tasks, memory_words, word}
use Rattle.model.specs.Store.{Store, view, slot_after, forward, distance, Phase, Write, none, to, index, settled, stored_word}
use Rattle.model.specs.Calls.{is_refusal, unless_refused, is_commit}
use Rattle.model.specs.Test.{pick, ◌and◌, both}
use Rattle.model.specs.Types.{Answer, Body, Device, Dropping, Free, Half, Handler, Ok, Option, Place, Record, Replacing, Resting, Run}
use Rattle.model.specs.Claims.{sound_after, LookStays}

some_end : (b : Body) → 0 < end_stores b
unfolding end_stores
some_end (Body.Task t) = omega arith
some_end (Body.Event e) = omega arith

-- ---- the store and the device after a step, where the checks passed before it

module _ (p : List ℕ) (v : Store) (d : Device) (fit : Fit p v d) where
  no_burst_lem : d.handler ≡ Resting → zeros d.burst 8 ≡ true
  no_burst_lem rests = subst (Attends p v d.burst) rests fit.handler

  -- no store, and stores to memory, log and queue: no control word changes
  with_place-fits : (m l q r : List ℕ) (x : Place) (n : ℕ) → n ≤ v.log_pairs → Stands p v n x → Fit p (with_data v m l q) (with_place d r x n)
  unfolding with_place last_stores task_last_stores event_last_stores
  with_place-fits m l q r x n k h = record { control = fit.control; on = fit.on; count_in = k; place = h; handler = fit.handler }

  -- at an instruction
  runs-fits : (m l q r : List ℕ) (b : Body) (j n : ℕ) → n ≤ v.log_pairs → v.phase ≡ 0 → MayRun p v b → Fit p (with_data v m l q) (with_place d r (Run b j 0) n)
  runs-fits m l q r b j n k z may = with_place-fits m l q r (Run b j 0) n k (z, may, some_end b)

  handled-fits : (q : List ℕ) (h : Handler) → Attends p v d.burst h → Fit p (with_data v v.memory v.log q) (with_handler d h d.burst)
  unfolding with_handler last_stores task_last_stores event_last_stores
  handled-fits q h a = record { control = fit.control; on = fit.on; count_in = fit.count_in; place = fit.place; handler = a }

  -- other words 9, 10, 14 and 15
  control_other : (t o h x : ℕ) → t < tasks p → h ≤ v.queue_records → x ≤ v.queue_records
      → (v.phase ≡ 2 → (v.pending ≡ h) ⊎ ((v.pending ≡ slot_after v.queue_records h) × (h ≢ x))) → (v.phase ≡ 2 → o ≡ 0)
      → (v.phase ≡ 0 → v.begun ≡ 2 → (h ≢ x) × (o ≡ 0))
      → ControlledBy p v.log_pairs v.queue_records v.phase t o v.count v.pending h x v.begun
  control_other t o h x task head tail pending open' begun =
      let c = fit.control in
      record {
        phase_in = c.phase_in;
        task_in = task;
        head_in = head;
        tail_in = tail;
        count_in = c.count_in;
        pending_task = c.pending_task;
        pending_head = c.pending_head;
        pending_is = pending;
        open_none = open';
        begun_in = c.begun_in;
        begun_event = begun;
      }

  -- a new tail, behind some records
  module _ (k : ℕ) (some_record : 0 < k) (room : distance v.queue_records v.head v.tail + k ≤ v.queue_records) where
    abbrev x : ℕ
    x = forward v.queue_records v.tail k

    apart : v.head ≢ x
    apart = tail_apart v.queue_records v.head v.tail k fit.control.head_in fit.control.tail_in room (omega arith)

    may_tail : (b : Body) → MayRun p v b → MayRunBy p v.task v.open_number v.head x v.begun b
    may_tail (Body.Task t) h = h
    may_tail (Body.Event e) (h, kind) = ((h.0, h.1, apart), kind)

    stands_tail : (n c : ℕ) (y : Place) → StandsBy p v.log_pairs v.phase v.task v.open_number v.count v.head v.tail v.begun c n y
        → StandsBy p v.log_pairs v.phase v.task v.open_number v.count v.head x v.begun c n y
    stands_tail n c (Free i) h = h
    stands_tail n c (Run b j i) h = (h.0, may_tail b h.1, h.2)
    stands_tail n c (Half b j) h = (h.0, may_tail b h.1, h.2)

    tail-fits : Fit p (with_queue v v.queue x) (resting d)
    unfolding with_handler last_stores task_last_stores event_last_stores zeros both
    tail-fits =
        let c = fit.control in
        record {
          control =
              control_other v.task v.open_number v.head x c.task_in c.head_in (forward_le v.queue_records v.tail k c.tail_in (omega (arith, room)))
              (λ q. ⊎_elim inl (λ a. inr (a.0, apart)) (c.pending_is q)) c.open_none (λ z two. (apart, (c.begun_event z two).1));
          on = fit.on;
          count_in = fit.count_in;
          place = stands_tail d.count (length (last_stores v)) d.place fit.place;
          handler = refl;
        }

  -- a commit's stores to words 9, 10 and 14, and the last one
  last_fits : {c : ℕ} → Commits v d c → (t o h : ℕ) → t < tasks p → h ≤ v.queue_records
      → (v.phase ≡ 2 → (v.pending ≡ h) ⊎ ((v.pending ≡ slot_after v.queue_records h) × (h ≢ v.tail))) → (v.phase ≡ 2 → o ≡ 0) → c + 1 < v.count + length (last_stores v)
      → Fit p (with_next v t o h) (at_place d (Free (c + 1)))
  unfolding with_place last_stores task_last_stores event_last_stores
  last_fits w t o h task head pending open' left =
      record {
        control = control_other t o h v.tail task head fit.control.tail_in pending open' (λ z. absurd (w.phase z));
        on = fit.on;
        count_in = fit.count_in;
        place = (λ z. absurd (w.phase z), λ _. left);
        handler = rw w.rests (no_burst_lem w.rests);
      }

  -- that of 0 to word 16, and the last one, which word 16 must be 0 for
  cleared-fits : {c : ℕ} → Commits v d c → c + 1 < v.count + length (last_stores v) → Fit p (with_begun v 0) (at_place d (Free (c + 1)))
  unfolding with_place last_stores task_last_stores event_last_stores
  cleared-fits w left =
      let c = fit.control in
      record {
        control =
            record {
              phase_in = c.phase_in;
              task_in = c.task_in;
              head_in = c.head_in;
              tail_in = c.tail_in;
              count_in = c.count_in;
              pending_task = c.pending_task;
              pending_head = c.pending_head;
              pending_is = c.pending_is;
              open_none = c.open_none;
              begun_in = omega arith;
              begun_event = λ z. absurd (w.phase z);
            };
        on = fit.on;
        count_in = fit.count_in;
        place = (λ z. absurd (w.phase z), λ _. left);
        handler = rw w.rests (no_burst_lem w.rests);
      }

  over_fits : v.begun ≡ 0 → Fit p (with_phase v 0) (fresh true)
  unfolding fresh zeros both
  over_fits begun =
      let c = fit.control in
      record {
        control = control_still p _ _ _ _ _ _ _ _ _ _ refl c.task_in c.head_in c.tail_in c.begun_in (λ two. absurd (omega (arith, begun, two)));
        on = refl;
        count_in = omega arith;
        place = (λ _. (refl, begun), λ z. absurd (z refl));
        handler = refl;
      }

  -- a body is chosen
  chosen-fits : (b : Body) → d.handler ≡ Resting → v.phase ≡ 0 → EligibleBy p v.task v.open_number v.head v.tail b → kind_of b ≤ 2
      → (kind_of b ≡ 2 → (v.head ≢ v.tail) × (v.open_number ≡ 0)) → Fit p (with_begun v (kind_of b)) (started v d b)
  unfolding started with_place
  chosen-fits b rests z may kind event =
      let c = fit.control in
      record {
        control = control_still p _ _ _ _ _ _ _ _ _ _ z c.task_in c.head_in c.tail_in kind event;
        on = fit.on;
        count_in = omega arith;
        place = (z, (may, refl), some_end b);
        handler = rw rests (no_burst_lem rests);
      }

  -- GO's and DONE's stores before the commit store, to words 11 to 13
  noted_fits : (n w o : ℕ) (b : Body) (j c : ℕ) → v.phase ≡ 0 → MayRun p v b → c < end_stores b
      → Fit p (with_commit v n w o) (at_place d (Run b j c))
  unfolding with_place
  noted_fits n w o b j c z may l =
      let h = fit.control in
      record {
        control = control_still p _ _ _ _ _ _ _ _ _ _ z h.task_in h.head_in h.tail_in h.begun_in (h.begun_event z);
        on = fit.on;
        count_in = fit.count_in;
        place = (z, may, l);
        handler = fit.handler;
      }

  -- head moves on, past the record that is dropped
  may_head : (b : Body) (h : ℕ) → v.begun ≢ 2 → MayRun p v b → MayRunBy p v.task v.open_number h v.tail v.begun b
  unfolding kind_of
  may_head (Body.Task t) h no_event_lem m = m
  may_head (Body.Event e) h no_event_lem m = absurd (no_event_lem m.1)

  stands_head : (h n c : ℕ) → v.begun ≢ 2 → (y : Place) → StandsBy p v.log_pairs v.phase v.task v.open_number v.count v.head v.tail v.begun c n y
      → StandsBy p v.log_pairs v.phase v.task v.open_number v.count h v.tail v.begun c n y
  stands_head h n c no_event_lem (Free i) m = m
  stands_head h n c no_event_lem (Run b j i) m = (m.0, may_head b h no_event_lem m.1, m.2)
  stands_head h n c no_event_lem (Half b j) m = (m.0, may_head b h no_event_lem m.1, m.2)

  dropped-fits : 1 ≤ v.queue_records → Attends p v d.burst Dropping
      → Fit p (with_next v v.task v.open_number (slot_after v.queue_records v.head)) (with_handler d (Replacing 0) d.burst)
  unfolding with_handler last_stores task_last_stores event_last_stores records_at record_stores
  dropped-fits some_slot m =
      let c = fit.control in
      let q = v.queue_records in
      let some_record : v.head ≢ v.tail = λ e. slot_after_apart q v.tail some_slot (m.full ∙ e) in
      let fewer = distance-head q v.head v.tail c.head_in c.tail_in some_record in
      let most = distance_le q v.head v.tail c.head_in c.tail_in in
      record {
        control =
            control_other v.task v.open_number (slot_after q v.head) v.tail c.task_in (slot_after_le q v.head c.head_in) c.tail_in
            (λ two. absurd (m.not_committing two)) c.open_none (λ z two. absurd (m.event_not_begun two));
        on = fit.on;
        count_in = fit.count_in;
        place = stands_head (slot_after q v.head) d.count (length (last_stores v)) m.event_not_begun d.place fit.place;
        handler = record { least = omega arith; most = omega arith; known = m.known; room = omega (arith, fewer, most); inside = omega arith };
      }

  -- ---- each case

  later_attends : {h : Handler} {n c : ℕ} {later : Handler} {dropped : Option Record} → Works v h n c later dropped → AttendsAt p v d n (c + 1) → Attends p v d.burst later
  later_attends works_storing a = a
  later_attends works_replacing a = a

  -- a store of the phase isn't the commit store, and word 16 is 0
  abbrev Keeps : Outcome → Type 0
  Keeps o = ((x : ℕ) → o.write ≡ to Phase x → (is_commit o.answer ≡ false) × (v.begun ≡ 0)) → InsideOf p v o.write × Fit p (apply v o.write) o.device

  handling_keeps : {h : Handler} {n c : ℕ} {later : Handler} {dropped : Option Record} (o : Outcome) → Works v h n c later dropped
      → HandlerMade p v d n c later dropped o → Keeps o
  unfolding apply
  handling_keeps o w (record_made a (event_store n r l m)) _ = (slot_in v.head n fit.control.tail_in a.room l, handled-fits _ _ (later_attends w a))
  handling_keeps o w (record_made a (datum_store n r l m)) _ = (slot_in v.head n fit.control.tail_in a.room l, handled-fits _ _ (later_attends w a))
  handling_keeps {n = n} o w (tail_made a) _ = (tt, tail-fits (length (carried d.burst n)) a.least (omega (arith, a.room, a.least)))

  keeps : 1 ≤ v.queue_records → (o : Outcome) → Made p v d o → Keeps o
  unfolding apply choosing kind_of end_stores is_commit
  keeps some_slot o (handler q w m) ends = handling_keeps o w m ends
  keeps some_slot o (head_dropped q a l) _ = (tt, dropped-fits some_slot a)
  keeps some_slot o (commit_copy {c = c} h l m) _ =
      (m, with_place-fits _ _ _ d.registers (Free (c + 1)) d.count fit.count_in (λ z. absurd (h.phase z), λ _. omega (arith, least-last v)))
  keeps some_slot o (commit_task h one e) _ =
      (tt, last_fits h _ _ _ (fit.control.pending_task one) fit.control.head_in fit.control.pending_is fit.control.open_none (omega (arith, task_lasts v one)))
  keeps some_slot o (commit_open h one e) _ =
      (tt, last_fits h _ _ _ fit.control.task_in fit.control.head_in fit.control.pending_is (λ two. absurd (omega (arith, one, two))) (omega (arith, task_lasts v one)))
  keeps some_slot o (commit_head h two e) _ =
      (tt, last_fits h _ _ _ fit.control.task_in (fit.control.pending_head two) (λ _. inl refl) fit.control.open_none (omega (arith, event_lasts v (omega arith))))
  keeps some_slot o (commit_begun h e) _ = (tt, cleared-fits h (omega arith))
  keeps some_slot o (commit_phase h e) ends = (tt, over_fits (ends 0 refl).1)
  keeps some_slot o (chosen_event h none_open some l) _ = (tt, chosen-fits _ h.rests h.phase (l, none_open, some) (omega arith) (λ _. (some, none_open)))
  keeps some_slot o (chosen_task h n) _ = (tt, chosen-fits _ h.rests h.phase refl (omega arith) (λ two. absurd (omega (arith, two))))
  keeps some_slot o (computed h) _ = (tt, runs-fits _ _ _ _ _ _ _ fit.count_in h.stands.0 h.stands.1)
  keeps some_slot o (jumped h) _ = (tt, runs-fits _ _ _ _ _ _ _ fit.count_in h.stands.0 h.stands.1)
  keeps some_slot o (loaded h l) _ = (tt, runs-fits _ _ _ _ _ _ _ fit.count_in h.stands.0 h.stands.1)
  keeps some_slot o (overwritten h l e) _ =
      (omega (arith, (find_pair _ _ _ _ e).0, fit.count_in), runs-fits _ _ _ _ _ _ _ fit.count_in h.stands.0 h.stands.1)
  keeps some_slot o (half_saved {b = b} {j = j} h l e k) _ =
      (k, with_place-fits _ _ _ d.registers (Half b j) d.count fit.count_in (h.stands.0, h.stands.1, k))
  keeps some_slot o (saved h) _ = (h.stands.2, runs-fits _ _ _ _ _ _ _ (omega (arith, h.stands.2)) h.stands.0 h.stands.1)
  keeps some_slot o (go_count h) _ = (tt, noted_fits _ _ _ _ _ 1 h.stands.0 h.stands.1 (omega arith))
  keeps some_slot o (go_pending h) _ = (tt, noted_fits _ _ _ _ _ 2 h.stands.0 h.stands.1 (omega arith))
  keeps some_slot o (go_open h) _ = (tt, noted_fits _ _ _ _ _ 3 h.stands.0 h.stands.1 (omega arith))
  keeps some_slot o (go_phase h) ends = clash refl (ends 1 refl).0
  keeps some_slot o (done_count h) _ = (tt, noted_fits _ _ _ _ _ 1 h.stands.0 h.stands.1 (omega arith))
  keeps some_slot o (done_pending h) _ = (tt, noted_fits _ _ _ _ _ 2 h.stands.0 h.stands.1 (omega arith))
  keeps some_slot o (done_phase h) ends = clash refl (ends 2 refl).0

-- ---- what `sound_after` says

-- of a store to the phase
phase-stored : (s : List ℕ) (a : Answer) (w : Write) (x : ℕ) → w ≡ to Phase x → sound_after (stored_word s w) a (settled s w) ≡ true
    → (is_commit a ≡ false) × (word s 16 ≡ 0)
unfolding sound_after stored_word settled index pick
phase-stored s a w x is e =
    let h : (not (is_commit a) and eqb (word (set s 8 x) 16) 0) ≡ true = rw is at e in
    (not-true _ (and_left _ _ h), sym (get_or-set_other s 8 16 x 0 (omega arith)) ∙ eqb-true _ _ (and_right _ _ h))

-- ---- a step

module _ (p s : List ℕ) (d : Device) where
  look_after : Looked p s d → (w : Write) (e : Device) → InsideOf p (view s) w → Fit p (apply (view s) w) e → look p (settled s w) e ≡ Ok tt
  unfolding look settled apply
  look_after early none e inside fit = look_passes p s e (then_first _ _ early.passed) (then_first _ _ (then_rest _ _ early.passed)) fit
  look_after early (to w x) e inside fit =
      look_passes p (settled s (to w x)) e (then_first _ _ early.passed) (rule-kept p s w x ∙ then_first _ _ (then_rest _ _ early.passed))
      (subst (λ (u : Store). Fit p u e) (sym (view_after (memory_words p) (word s 2) (word s 3) s (sized early.shaped) w x inside)) fit)

  stays : (o : Outcome) → StepOutcome p s d o → is_refusal o.answer ≡ false → sound_after (stored_word s o.write) o.answer (settled s o.write) ≡ true
      → look p (settled s o.write) o.device ≡ Ok tt
  unfolding is_refusal unless_refused
  stays o (refused w) n e = clash refl n
  stays o (made early m u) n e =
      let k = keeps p (view s) d (early_fit early) early.shaped.shaped.sizes.some_records o m (λ x is. phase-stored s o.answer o.write x is e) in
      look_after early o.write o.device k.0 k.1

pub look_stays : LookStays
look_stays p s d = stays p s d (step p s d) (step_outcome p s d)
