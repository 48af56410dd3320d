-- A body keeps the invariant: choosing it, its instructions with the log, and the stores of its end. Assumes nothing.
use Prim.Native.Nat.{ℕ, zero, suc, ◌+◌, ◌-◌, ◌*◌, ◌≤◌, ◌<◌, min}
use mathlib.Core.Path.{◌≡◌, refl, sym, ap, subst, ◌∙◌}
use mathlib.Core.Logic.{◌⊎◌, inl, inr, ◌≢◌}
use mathlib.Core.Bool.{Bool, true, false, not}
use mathlib.Core.List.{List, [], ◌∷◌}
use native.Mathlib.Nat.{zero-add, add-suc, suc-add}
use native.Mathlib.Numerals.{add-one}
use native.Mathlib.Omega.{arith}
use borrow.Author.Tests.{lt-ltb, eqb-true, eqb-false, eq-eqb, ltb-true, not-true}
use lib.Dec.{eqb}
use lib.ListN.{length, set}
use lib.Seq.{get_or-set_other, get_or-set_same}
use Rattle.model.proofs.Invariant.{Lengths, Waiting, HeldAt, StillAt, Copying, ChosenAt, Running, EndingAt, HalfSaved, On, Inv, HandlesAt, is_dropping}
use Rattle.model.proofs.Kept.{Kept, refused-kept, stored-kept, begun_nothing, begun-committing, begun-chosen, copies_left, running_later, known-waiting, first_head, first-pending, unmarked_of, unchanged_is, rests_on}
use Rattle.model.proofs.LogLaws.{addr, overlay, overlay_zero, overlay_other, overlay_elsewhere, overlay_pair, overlay_overwrite, overlay_append, Distinct, find_pair, find_nothing}
use Rattle.model.proofs.RingLaws.{slot_after_le, distance_none, between_first, records-head}
use Rattle.model.proofs.StoreLaws.{apply, with_phase, with_begun, with_data, with_commit, Inside}
use Rattle.model.proofs.TestLaws.{pick_case, pick_true, pick-false, clash, below_or, and_true, and_left, and_right, must-true}
use Rattle.model.specs.Accepted.{Known, LegalEffect, Sound}
use Rattle.model.specs.Answer.{refusal}
use Rattle.model.specs.Calls.{Step}
use Rattle.model.specs.Demand3.{is_in, may_meet}
use Rattle.model.specs.Device.{Outcome, out, judged, fresh, with_place, storing, task_stores, event_stores, task_last_stores, event_last_stores, kind_of, current_task, oldest_event, begun_of, data_for, started, record_sound, event_next, choosing, choose_step, shown, save_step, act, save_rest}
use Rattle.model.specs.Program.{first_registers, word, tasks, events, memory_words, instructions, transaction, body_number, effect_at, new_open}
use Rattle.model.specs.Serial.{Serial, went, advance, walk, walk_body, after_task, after_event, serve_oldest, run_body, tell, no_post, after_stored}
use Rattle.model.specs.Store.{Store, event, datum, slot_after, empty, first_waiting, slot, records_from, distance, find, Word, Phase, Count, Pending, PendingOpen, Address, Value, none, to}
use Rattle.model.specs.Test.{pick, ◌and◌, both, either}
use Rattle.model.specs.Turns.{begun_after, oldest_or, next_body}
use Rattle.model.specs.Types.{Answer, Body, Device, Effect, Half, None, Ok, Option, Record, Refusal, Resting, Run, Some}

-- no store of a body's end is made
ending_none : (p : List ℕ) (v : Store) (d : Device) (b : Body) (i j : ℕ) (f : Effect) → LegalEffect p i j f → EndingAt p v d b 0 f
unfolding task_stores event_stores
ending_none p v d b i j (Effect.Compute a x) h = refl
ending_none p v d b i j (Effect.Jump k) h = refl
ending_none p v d b i j (Effect.Load a x) h = refl
ending_none p v d b i j (Effect.Save x y) h = refl
ending_none p v d b i j (Effect.EndTask k) h = (omega arith, tt)
ending_none p v d b i j Effect.EndEvent h = (omega arith, tt)
ending_none p v d b i j Effect.Unknown h = absurd h

module _ (p : List ℕ) (sound : Sound p) (v : Store) (lengths : Lengths p v) (d : Device) (z : Serial) (k : ℕ)
    (i : On p v d z k) (at_rest : d.handler ≡ Resting) (still : StillAt v z) where
  -- a body goes on at instruction j
  runs : (log : List ℕ) (b : Body) (x j : ℕ) (r : List ℕ) (l : ℕ)
      → ChosenAt v x b
      → Running p v.memory log z.memory (suc k) b x j r l
      → l ≤ v.log_pairs
      → Inv p (with_data v v.memory log v.queue) (with_place d r (Run b j 0) l) z (suc k)
  unfolding with_place first_waiting
  runs log b x j r l chosen h s =
      inr
      (record {
        held = i.held;
        on = i.on;
        handles = i.handles;
        marked = i.marked;
        count_in = s;
        placed = (
          (still, (x, chosen, h)),
          ending_none p (with_data v v.memory log v.queue) (with_place d r (Run b j 0) l) b (body_number p b) j (effect_at p (body_number p b) j r) (sound.legal (body_number p b) j r h.body_in h.place_in),
        );
      })

-- ---- beginning a body: choosing it, and taking it up

module _ (p : List ℕ) (sound : Sound p) (v : Store) (d : Device) (z : Serial) (k : ℕ) (held : HeldAt p v z) (still : StillAt v z) where
  -- at its first instruction, register 0 with x, where the device is on
  pub begins : d.on ≡ true → HandlesAt p v z d.burst d.handler → z.posting.found_full ≡ is_dropping d.handler → (b : Body) (x : ℕ)
      → ChosenAt v x b → body_number p b < tasks p + events p → On p v (with_place d (first_registers x) (Run b 0 0) 0) z (suc k)
  unfolding with_place
  begins on handles marked b x chosen h =
      record {
        held = held;
        on = on;
        handles = handles;
        marked = marked;
        count_in = omega arith;
        placed = (
          (
            still,
            (
              x,
              chosen,
              record {
                body_in = h;
                place_in = sound.some_instruction (body_number p b) h;
                addresses = λ n l. absurd (omega arith);
                distinct = record { apart = λ n m l s. absurd (omega arith) };
                ran = 0;
                ran_in = omega arith;
                same = λ f. rw (zero-add, overlay_zero, still.memory_is);
              },
            ),
          ),
          ending_none p v (with_place d (first_registers x) (Run b 0 0) 0) b (body_number p b) 0 (effect_at p (body_number p b) 0 (first_registers x))
              (sound.legal (body_number p b) 0 (first_registers x) h (sound.some_instruction (body_number p b) h)),
        );
      }

  -- the current task, and the event of the record at head, are bodies of the program
  pub task_in : body_number p (current_task v) < tasks p + events p
  unfolding body_number
  task_in = rw still.task_is (omega (arith, held.tasked.task_in))

  pub event-known : v.head ≢ v.tail → event v v.head < events p
  event-known some_record =
      known-waiting held.waits v.head held.head_in (rw (first_head v 0 still.phase_is refl) (between_first v.head v.tail some_record))

  pub event_in : v.head ≢ v.tail → body_number p (oldest_event v) < tasks p + events p
  unfolding body_number
  event_in some_record = omega (arith, event-known some_record)

  waits-at-head : Waiting p v.queue v.queue_records v.head v.tail z.records
  waits-at-head = rw (first_head v 0 still.phase_is refl) at held.waits

  -- it is the turn of the event of the record at head, or else of the current task
  event-next : v.open_number ≡ 0 → v.head ≢ v.tail → oldest_event v ≡ next_body z
  unfolding next_body oldest_or slot
  event-next open' some_record =
      let waits = waits-at-head in
      let records_are = sym waits.same ∙ records-head v.queue v.queue_records v.head v.tail held.head_in waits.tail_in some_record in
      sym
      (pick_true _ _ (eq-eqb _ _ (sym still.open_is ∙ open'))
      ∙ ap (λ (rs : List Record). oldest_or rs (Body.Task z.task)) records_are)

  no_records : v.head ≡ v.tail → z.records ≡ []
  unfolding records_from
  no_records e =
      let waits = waits-at-head in
      let far : distance v.queue_records v.head v.tail ≡ 0 =
      ap (distance v.queue_records v.head) (sym e) ∙ distance_none v.queue_records v.head in
      sym waits.same ∙ ap (records_from v.queue v.queue_records v.head) far

  task-next : event_next v ≡ false → current_task v ≡ next_body z
  unfolding event_next next_body oldest_or both
  task-next e = go (eqb v.open_number 0) refl (empty v) refl e
    where
      same : Body.Task v.task ≡ Body.Task z.task
      same = ap Body.Task still.task_is

      go : (a : Bool) → eqb v.open_number 0 ≡ a → (b : Bool) → empty v ≡ b → (a and not b) ≡ false → current_task v ≡ next_body z
      go true o true n f =
          same
          ∙ sym (pick_true _ _ (ap (λ (x : ℕ). eqb x 0) (sym still.open_is) ∙ o)
          ∙ ap (λ (rs : List Record). oldest_or rs (Body.Task z.task)) (no_records (eqb-true _ _ n)))
      go true o false n f = clash refl f
      go false o b n f = same ∙ sym (pick-false _ _ (ap (λ (x : ℕ). eqb x 0) (sym still.open_is) ∙ o))

-- "Choosing stores it and still answers chosen"
module _ (p : List ℕ) (sound : Sound p) (v : Store) (d : Device) (z : Serial) (k : ℕ) (i : On p v d z k) (at_rest : d.handler ≡ Resting) (still : StillAt v z) (nothing : v.begun ≡ 0) where
  choosing-kept : (b : Body) (x : ℕ) → data_for v b ≡ x → ChosenAt (with_begun v (kind_of b)) x b → body_number p b < tasks p + events p → kind_of b ≤ 2
      → b ≡ next_body z → Kept p v z k Step (choosing v d b)
  unfolding choosing started tell apply begun_after first_waiting
  choosing-kept b x is chosen h kind turn =
      let u = with_begun v (kind_of b) in
      let held = i.held in
      record {
        inside = tt;
        serial = z;
        tells = λ fuel l. ap Some (unchanged_is z (unmarked_of i at_rest));
        expected = tt;
        turn = (begun_nothing v nothing, turn);
        told = tt;
        begins = begun-chosen u still.phase_is x b chosen;
        inv =
            inr
            (rw is
            (begins p sound u d z k (record { tasked = held.tasked; head_in = held.head_in; begun_in = kind; waits = held.waits }) still
            i.on (rests_on i at_rest u z) i.marked b x chosen h));
      }

  pub choose_kept : Kept p v z k Step (choose_step p v d)
  unfolding choose_step event_next judged record_sound data_for kind_of
  choose_kept =
      pick_case (λ (o : Outcome). Kept p v z k Step o)
      (λ e.
      let open' : v.open_number ≡ 0 = eqb-true _ _ (and_left _ _ e) in
      let some_record : v.head ≢ v.tail = eqb-false _ _ (not-true _ (and_right _ _ e)) in
      let passed : record_sound p v ≡ (Ok tt) = must-true _ (lt-ltb _ _ (event-known p sound v d z k i.held still some_record)) in
      rw passed
      (choosing-kept (oldest_event v) (datum v v.head) refl ((open', (some_record, (refl, refl))), refl)
      (event_in p sound v d z k i.held still some_record) (omega arith) (event-next p sound v d z k i.held still open' some_record)))
      (λ e.
      choosing-kept (current_task v) 0 refl ((refl, refl), refl) (task_in p sound v d z k i.held still) (omega arith)
      (task-next p sound v d z k i.held still e))

-- ---- one instruction

walk_step : (p : List ℕ) (i j : ℕ) (r m : List ℕ) (g : ℕ) → j < instructions p i
    → walk (suc g) p i j r m ≡ advance p j r m (λ n s o. walk g p i n s o) (effect_at p i j r)
unfolding walk
walk_step p i j r m g h = pick_true _ _ (lt-ltb _ _ h)

-- "LOAD takes the log's value for that address, if it has one, else memory's": what memory with the log laid over it holds
shown_is : (v : Store) (l y : ℕ) → Distinct v.log l → y < length v.memory → shown v (find v.log l y) y ≡ word (overlay v.memory v.log l) y
unfolding shown
shown_is v l y apart h = go (find v.log l y) refl
  where
    go : (f : Option ℕ) → find v.log l y ≡ f → shown v f y ≡ word (overlay v.memory v.log l) y
    go (Some n) e =
        let q = find_pair v.log l y n e in
        rw (← q.1) (sym (overlay_pair v.memory v.log l n apart (rw q.1 h) q.0))
    go None e = sym (overlay_elsewhere v.memory v.log l y (find_nothing v.log l y e))

module _ (p : List ℕ) (sound : Sound p) (v : Store) (lengths : Lengths p v) (d : Device) (z : Serial) (k : ℕ)
    (i : On p v d z k) (at_rest : d.handler ≡ Resting) (still : StillAt v z) (b : Body) (j x : ℕ)
    (chosen : ChosenAt v x b)
    (h : Running p v.memory v.log z.memory k b x j d.registers d.count) where
  abbrev n : ℕ
  n = body_number p b

  -- memory as the body sees it
  abbrev seen : List ℕ
  seen = overlay v.memory v.log d.count

  walked : (f : Effect) → effect_at p n j d.registers ≡ f → (g : ℕ)
      → walk (suc h.ran + g) p n 0 (first_registers x) z.memory ≡ advance p j d.registers seen (λ a s o. walk g p n a s o) f
  walked f e g =
      ap (λ (a : ℕ). walk a p n 0 (first_registers x) z.memory) (suc-add h.ran g ∙ sym (add-suc h.ran g))
      ∙ h.same (suc g)
      ∙ walk_step p n j d.registers seen g h.place_in
      ∙ ap (advance p j d.registers seen (λ a s o. walk g p n a s o)) e

  -- the body goes on at instruction a, with registers r and l pairs in the log
  goes_on : (f : Effect) → effect_at p n j d.registers ≡ f → (log : List ℕ) (a : ℕ) (r : List ℕ) (l : ℕ) → a < instructions p n
      → ((y : ℕ) → y < l → addr log y < memory_words p) → Distinct log l → l ≤ v.log_pairs
      → ((g : ℕ) → advance p j d.registers seen (λ c s o. walk g p n c s o) f ≡ walk g p n a r (overlay v.memory log l))
      → Inv p (with_data v v.memory log v.queue) (with_place d r (Run b a 0) l) z (suc k)
  goes_on f e log a r l place addresses apart count same =
      runs p sound v lengths d z k i at_rest still log b x a r l chosen
      (record {
        body_in = h.body_in;
        place_in = place;
        addresses = addresses;
        distinct = apart;
        ran = suc h.ran;
        ran_in = omega (arith, h.ran_in);
        same = λ g. walked f e g ∙ same g;
      }) count

  -- without a store
  works : (f : Effect) → effect_at p n j d.registers ≡ f → (a : ℕ) (r : List ℕ) → a < instructions p n
      → ((g : ℕ) → advance p j d.registers seen (λ c s o. walk g p n c s o) f ≡ walk g p n a r seen)
      → Kept p v z k Step (out none (with_place d r (Run b a 0) d.count) Answer.Worked)
  unfolding tell apply begun_after
  works f e a r place same =
      record {
        inside = tt;
        serial = z;
        tells = λ fuel l. ap Some (unchanged_is z (unmarked_of i at_rest));
        expected = tt;
        turn = tt;
        told = tt;
        begins = refl;
        inv = goes_on f e v.log a r d.count place h.addresses h.distinct i.count_in same;
      }

  -- the address is stored behind the pairs
  half_saved : (y w : ℕ) → effect_at p n j d.registers ≡ Effect.Save y w → y < memory_words p
      → ((m : ℕ) → m < d.count → addr v.log m ≢ y) → d.count < v.log_pairs
      → Kept p v z k Step (out (to (Address d.count) y) (with_place d d.registers (Half b j) d.count) Answer.Stored)
  unfolding tell apply with_place first_waiting begun_of
  half_saved y w e below new room =
      let l = d.count in
      let log = set v.log (2 * l) y in
      let keeps : (m : ℕ) → m < l → addr log m ≡ addr v.log m = λ m s. get_or-set_other v.log (2 * l) (2 * m) y 0 (omega arith) in
      stored-kept (to (Address l) y) _ (unmarked_of i at_rest) room refl
      (inr
      (record {
        held = i.held;
        on = i.on;
        handles = i.handles;
        marked = i.marked;
        count_in = i.count_in;
        placed = (
          (
            still,
            (
              x,
              chosen,
              record {
                body_in = h.body_in;
                place_in = h.place_in;
                addresses = λ m s. rw (keeps m s) (h.addresses m s);
                distinct = record { apart = λ m o s t. rw (keeps m (omega arith), keeps o t) (h.distinct.apart m o s t) };
                ran = h.ran;
                ran_in = omega (arith, h.ran_in);
                same = λ g. rw (overlay_other v.memory v.log (2 * l) y l (omega arith)) (h.same g);
              },
            ),
          ),
          rw e (
            below,
            (
              room,
              (get_or-set_same v.log (2 * l) y 0 (omega (arith, lengths.log_length)), λ m s. rw (keeps m s) (new m s)),
            ),
          ),
        );
      }))

  save_kept : (y w : ℕ) → effect_at p n j d.registers ≡ Effect.Save y w → j + 1 < instructions p n → y < memory_words p
      → (f : Option ℕ) → find v.log d.count y ≡ f → Kept p v z k Step (save_step v d b j y w f)
  unfolding save_step tell apply with_place advance refusal is_in may_meet either begun_of
  save_kept y w e place below (Some a) q =
      let pair = find_pair v.log d.count y a q in
      let keeps : (m : ℕ) → addr (set v.log (2 * a + 1) w) m ≡ addr v.log m = λ m. get_or-set_other v.log (2 * a + 1) (2 * m) w 0 (omega arith) in
      stored-kept (to (Value a) w) _ (unmarked_of i at_rest) (omega (arith, pair.0, i.count_in)) refl
      (goes_on (Effect.Save y w) e (set v.log (2 * a + 1) w) (j + 1) d.registers d.count place
      (λ m l. rw (keeps m) (h.addresses m l))
      (record { apart = λ m o l s. rw (keeps m, keeps o) (h.distinct.apart m o l s) }) i.count_in
      (λ g.
      pick_true _ _ (lt-ltb _ _ below)
      ∙ ap (λ (m : List ℕ). walk g p n (j + 1) d.registers m)
      (sym (overlay_overwrite v.memory v.log d.count a w h.distinct (omega (arith, i.count_in, lengths.log_length)) pair.0
      ∙ ap (λ (c : ℕ). set seen c w) pair.1))))
  save_kept y w e place below None q =
      pick_case (λ (o : Outcome). Kept p v z k Step o) (λ s. half_saved y w e below (find_nothing v.log d.count y q) (ltb-true _ _ s))
      (λ s. refused-kept p v d z k Step Refusal.LogFull refl (inr i))

  pub rest-kept : (f : Effect) → effect_at p n j d.registers ≡ f → LegalEffect p n j f → HalfSaved p v.log v.log_pairs d.count f → Kept p v z k Step (save_rest d b j f)
  unfolding save_rest tell after_stored apply advance begun_after begun_of
  rest-kept (Effect.Compute a y) e leads t = absurd t
  rest-kept (Effect.Jump a) e leads t = absurd t
  rest-kept (Effect.Load a y) e leads t = absurd t
  rest-kept (Effect.Save y w) e leads (below, (room, (stored, new))) =
      let l = d.count in
      let log = set v.log (2 * l + 1) w in
      let keeps : (m : ℕ) → addr log m ≡ addr v.log m = λ m. get_or-set_other v.log (2 * l + 1) (2 * m) w 0 (omega arith) in
      record {
        inside = room;
        serial = z;
        tells = λ fuel s. pick-false _ _ (unmarked_of i at_rest) ∙ ap Some (unchanged_is z (unmarked_of i at_rest));
        expected = tt;
        turn = tt;
        told = tt;
        begins = refl;
        inv =
            goes_on (Effect.Save y w) e log (j + 1) d.registers (l + 1) leads
            (λ m s. rw (keeps m) (below_or m l (h.addresses m) (λ t. let f : m ≡ l = omega arith in rw (f, stored) below)))
            (record {
              apart =
                  λ m o s t.
                  rw (keeps m, keeps o)
                  (below_or o l (h.distinct.apart m o s) (λ u. let f : o ≡ l = omega arith in rw (f, stored) (new m (omega arith))));
            }) (omega arith)
            (λ g.
            pick_true _ _ (lt-ltb _ _ below)
            ∙ ap (λ (m : List ℕ). walk g p n (j + 1) d.registers m)
            (sym (ap (overlay v.memory log) (add-one l) ∙ overlay_append v.memory v.log l y w (omega (arith, lengths.log_length)) stored)));
      }
  rest-kept (Effect.EndTask a) e leads t = absurd t
  rest-kept Effect.EndEvent e leads t = absurd t
  rest-kept Effect.Unknown e leads t = absurd t

  -- ---- the stores of its end

  -- the serial run of the whole body
  walk_ends : (f : Effect) → effect_at p n j d.registers ≡ f → (fuel : ℕ) → k < fuel
      → walk fuel p n 0 (first_registers x) z.memory ≡ advance p j d.registers seen (λ a s o. walk (fuel - suc h.ran) p n a s o) f
  walk_ends f e fuel l =
      let q : fuel ≡ suc h.ran + (fuel - suc h.ran) = omega (arith, h.ran_in) in
      ap (λ (a : ℕ). walk a p n 0 (first_registers x) z.memory) q ∙ walked f e (fuel - suc h.ran)

  waits-head : Waiting p v.queue v.queue_records v.head v.tail z.records
  waits-head = rw (first_head v 0 still.phase_is refl) at i.held.waits

  -- words 11 to 13 are stored one by one
  staged : (w : Word) (y c a o m : ℕ) → Inside (memory_words p) v.log_pairs v.queue_records w → apply v (to w y) ≡ with_commit v a o m
      → (f : Effect) → effect_at p n j d.registers ≡ f → EndingAt p (with_commit v a o m) d b c f
      → Kept p v z k Step (out (to w y) (with_place d d.registers (Run b j c) d.count) Answer.Stored)
  unfolding with_place
  staged w y c a o m s q f e t =
      stored-kept (to w y) _ (unmarked_of i at_rest) s (rw q (begun-chosen (with_commit v a o m) still.phase_is x b chosen ∙ sym (begun-chosen v still.phase_is x b chosen)))
      (rw q
      (inr
      (record {
        held =
            record {
              tasked = i.held.tasked;
              head_in = i.held.head_in;
              begun_in = i.held.begun_in;
              waits = rw (first_head (with_commit v a o m) 0 still.phase_is refl) waits-head;
            };
        on = i.on;
        handles = i.handles;
        marked = i.marked;
        count_in = i.count_in;
        placed = ((still, (x, chosen, running_later h)), rw e t);
      })))

  -- the commit store: nothing is copied yet
  none_copied : v.count ≡ d.count → Copying p v.log_pairs v.count 0 v.memory v.log seen
  none_copied count =
      record {
        count_in = omega (arith, i.count_in);
        addresses = λ y l. h.addresses y (omega arith);
        base = v.memory;
        copied = let q : min 0 v.count ≡ 0 = omega arith in sym (ap (overlay v.memory v.log) q ∙ overlay_zero v.memory v.log);
        whole = ap (overlay v.memory v.log) count;
      }

-- "8 becomes 1 (the commit store)"
new_open_in : (p : List ℕ) (x a : ℕ) → (new_open x (transaction p a) ≡ 0) ⊎ (new_open x (transaction p a) ≡ transaction p a)
unfolding new_open
new_open_in p x a =
    pick_case (λ (o : ℕ). (o ≡ 0) ⊎ (o ≡ transaction p a)) (λ e. inr (eqb-true _ _ e)) (λ e. inl refl)

task-commits : (p : List ℕ) (sound : Sound p) (v : Store) (lengths : Lengths p v) (d : Device) (z : Serial) (k : ℕ)
    (i : On p v d z k) (at_rest : d.handler ≡ Resting) (still : StillAt v z) (t j x : ℕ)
    (chosen : ChosenAt v x (Body.Task t))
    (h : Running p v.memory v.log z.memory k (Body.Task t) x j d.registers d.count) (a : ℕ)
    → effect_at p t j d.registers ≡ Effect.EndTask a → a < tasks p → v.count ≡ d.count → v.pending ≡ a
    → v.pending_open ≡ new_open (transaction p t) (transaction p a)
    → Kept p v z k Step (out (to Phase 1) (fresh true) (Answer.Committed (Body.Task t)))
unfolding tell apply fresh run_body after_task no_post walk_body body_number advance task_last_stores begun_after
task-commits p sound v lengths d z k i at_rest still t j x chosen h a e below count pending pending_open =
    let is : t ≡ z.task = chosen.0.0 ∙ still.task_is in
    let w = overlay v.memory v.log d.count in
    let ends : (fuel : ℕ) → k < fuel → walk fuel p t 0 (first_registers 0) z.memory ≡ went a w =
    λ fuel l. ap (λ (y : ℕ). walk fuel p t 0 (first_registers y) z.memory) (sym chosen.0.1) ∙ walk_ends p sound v lengths d z k i at_rest still (Body.Task t) j x chosen h (Effect.EndTask a) e fuel l in
    record {
      inside = tt;
      serial =
          record {
            memory = w;
            task = a;
            open_number = new_open (transaction p z.task) (transaction p a);
            records = z.records;
            posting = no_post z.posting;
          };
      tells = λ fuel l. pick_true _ _ (eq-eqb _ _ is) ∙ ap (after_task p z) (ends fuel l);
      expected = tt;
      turn = begun-chosen v still.phase_is x (Body.Task t) chosen;
      told = tt;
      begins = begun-committing (with_phase v 1) 1 refl refl;
      inv =
          inr
          (record {
            held =
                record {
                  tasked = record { task_in = below; open_in = new_open_in p (transaction p z.task) a };
                  head_in = i.held.head_in;
                  begun_in = i.held.begun_in;
                  waits =
                      rw (first_head (apply v (to Phase 1)) 1 refl refl)
                      (waits-head p sound v lengths d z k i at_rest still (Body.Task t) j x chosen h);
                };
            on = refl;
            handles = refl;
            marked = refl;
            count_in = omega arith;
            placed =
                inr (
                  none_copied p sound v lengths d z k i at_rest still (Body.Task t) j x chosen h count,
                  inl
                      (record {
                        phase_is = refl;
                        task_in = omega (arith, still.task_is, i.held.tasked.task_in);
                        pending_is = pending;
                        pending_open_is = pending_open ∙ ap (λ (y : ℕ). new_open (transaction p y) (transaction p a)) is;
                        lasting = copies_left (omega arith) (omega arith);
                      }),
                );
          });
    }

-- "8 becomes 2"
event-commits : (p : List ℕ) (sound : Sound p) (v : Store) (lengths : Lengths p v) (d : Device) (z : Serial) (k : ℕ)
    (i : On p v d z k) (at_rest : d.handler ≡ Resting) (still : StillAt v z) (e j x : ℕ)
    (chosen : ChosenAt v x (Body.Event e))
    (h : Running p v.memory v.log z.memory k (Body.Event e) x j d.registers d.count)
    → effect_at p (tasks p + e) j d.registers ≡ Effect.EndEvent → v.count ≡ d.count → v.pending ≡ slot_after v.queue_records v.head
    → Kept p v z k Step (out (to Phase 2) (fresh true) (Answer.Committed (Body.Event e)))
unfolding tell apply fresh run_body serve_oldest after_event no_post walk_body body_number advance slot event_last_stores begun_after
event-commits p sound v lengths d z k i at_rest still e j x chosen h ends count pending =
    let q = v.queue_records in
    let waits = waits-head p sound v lengths d z k i at_rest still (Body.Event e) j x chosen h in
    let w = overlay v.memory v.log d.count in
    let some_record = chosen.0.1.0 in
    let rest = records_from v.queue q (slot_after q v.head) (distance q (slot_after q v.head) v.tail) in
    let records_are : z.records ≡ slot v.queue v.head ∷ rest =
    sym waits.same ∙ records-head v.queue q v.head v.tail i.held.head_in waits.tail_in some_record in
    record {
      inside = tt;
      serial = record { memory = w; task = z.task; open_number = z.open_number; records = rest; posting = no_post z.posting };
      tells =
          λ fuel l.
          ap (serve_oldest fuel p z e) records_are
          ∙ pick_true _ _ (and_true (eq-eqb _ _ chosen.0.1.1.0) (eq-eqb _ _ (sym still.open_is ∙ chosen.0.0)))
          ∙ ap (after_event z rest)
          (ap (λ (y : ℕ). walk fuel p (tasks p + e) 0 (first_registers y) z.memory) chosen.0.1.1.1
          ∙ walk_ends p sound v lengths d z k i at_rest still (Body.Event e) j x chosen h Effect.EndEvent ends fuel l);
      expected = tt;
      turn = begun-chosen v still.phase_is x (Body.Event e) chosen;
      told = tt;
      begins = begun-committing (with_phase v 2) 2 refl refl;
      inv =
          inr
          (record {
            held =
                record {
                  tasked = i.held.tasked;
                  head_in = i.held.head_in;
                  begun_in = i.held.begun_in;
                  waits =
                      rw (first-pending (apply v (to Phase 2)) refl ∙ pending)
                      (record {
                        first_in = slot_after_le q v.head i.held.head_in;
                        tail_in = waits.tail_in;
                        same = refl;
                        known = (subst (Known p) records_are waits.known).1;
                      });
                };
            on = refl;
            handles = refl;
            marked = refl;
            count_in = omega arith;
            placed =
                inr (
                  none_copied p sound v lengths d z k i at_rest still (Body.Event e) j x chosen h count,
                  inr
                      (record {
                        phase_is = refl;
                        task_is = still.task_is;
                        open_is = still.open_is;
                        open_none = chosen.0.0;
                        pending_is = inr (pending, some_record);
                        lasting = copies_left (omega arith) (omega arith);
                      }),
                );
          });
    }

-- GO stands in a task, DONE in an event
task-last : (p : List ℕ) (sound : Sound p) (v : Store) (lengths : Lengths p v) (d : Device) (z : Serial) (k : ℕ)
    (i : On p v d z k) (at_rest : d.handler ≡ Resting) (still : StillAt v z) (b : Body) (j x : ℕ)
    (chosen : ChosenAt v x b)
    (h : Running p v.memory v.log z.memory k b x j d.registers d.count) (a : ℕ)
    → effect_at p (body_number p b) j d.registers ≡ Effect.EndTask a → LegalEffect p (body_number p b) j (Effect.EndTask a) → v.count ≡ d.count → v.pending ≡ a
    → v.pending_open ≡ new_open (transaction p (body_number p b)) (transaction p a)
    → Kept p v z k Step (out (to Phase 1) (fresh true) (Answer.Committed b))
unfolding body_number
task-last p sound v lengths d z k i at_rest still (Body.Task t) j x chosen h a e leads count pending pending_open =
    task-commits p sound v lengths d z k i at_rest still t j x chosen h a e leads.0 count pending pending_open
task-last p sound v lengths d z k i at_rest still (Body.Event n) j x chosen h a e leads count pending pending_open =
    absurd (omega (arith, leads.1))

event-last : (p : List ℕ) (sound : Sound p) (v : Store) (lengths : Lengths p v) (d : Device) (z : Serial) (k : ℕ)
    (i : On p v d z k) (at_rest : d.handler ≡ Resting) (still : StillAt v z) (b : Body) (j x : ℕ)
    (chosen : ChosenAt v x b)
    (h : Running p v.memory v.log z.memory k b x j d.registers d.count)
    → effect_at p (body_number p b) j d.registers ≡ Effect.EndEvent → LegalEffect p (body_number p b) j Effect.EndEvent → v.count ≡ d.count
    → v.pending ≡ slot_after v.queue_records v.head
    → Kept p v z k Step (out (to Phase 2) (fresh true) (Answer.Committed b))
unfolding body_number
event-last p sound v lengths d z k i at_rest still (Body.Task t) j x chosen h e leads count pending =
    absurd (omega (arith, leads, chosen.0.0, still.task_is, i.held.tasked.task_in))
event-last p sound v lengths d z k i at_rest still (Body.Event n) j x chosen h e leads count pending =
    event-commits p sound v lengths d z k i at_rest still n j x chosen h e count pending

module _ (p : List ℕ) (sound : Sound p) (v : Store) (lengths : Lengths p v) (d : Device) (z : Serial) (k : ℕ)
    (i : On p v d z k) (at_rest : d.handler ≡ Resting) (still : StillAt v z) (b : Body) (j x : ℕ)
    (chosen : ChosenAt v x b)
    (h : Running p v.memory v.log z.memory k b x j d.registers d.count) where
  task_end_kept : (a : ℕ) → effect_at p (body_number p b) j d.registers ≡ Effect.EndTask a → LegalEffect p (body_number p b) j (Effect.EndTask a) → (c : ℕ)
      → EndingAt p v d b c (Effect.EndTask a)
      → Kept p v z k Step (storing (task_stores p (body_number p b) a d.count) c (with_place d d.registers (Run b j (c + 1)) d.count) (fresh true) (Answer.Committed b))
  unfolding storing pick task_stores event_stores apply
  task_end_kept a e leads zero (l, _) =
      staged p sound v lengths d z k i at_rest still b j x chosen h Count d.count 1 d.count v.pending v.pending_open tt refl (Effect.EndTask a) e
      (omega arith, (refl, tt))
  task_end_kept a e leads (suc zero) (l, (count, _)) =
      staged p sound v lengths d z k i at_rest still b j x chosen h Pending a 2 v.count a v.pending_open tt refl (Effect.EndTask a) e
      (omega arith, (count, (refl, tt)))
  task_end_kept a e leads (suc (suc zero)) (l, (count, (pending, _))) =
      staged p sound v lengths d z k i at_rest still b j x chosen h PendingOpen _ 3 v.count v.pending _ tt refl (Effect.EndTask a) e
      (omega arith, (count, (pending, (refl, tt))))
  task_end_kept a e leads (suc (suc (suc zero))) (l, (count, (pending, (open', _)))) =
      task-last p sound v lengths d z k i at_rest still b j x chosen h a e leads count pending open'
  task_end_kept a e leads (suc (suc (suc (suc c)))) (l, made) = absurd (omega arith)

  event_end_kept : effect_at p (body_number p b) j d.registers ≡ Effect.EndEvent → LegalEffect p (body_number p b) j Effect.EndEvent → (c : ℕ)
      → EndingAt p v d b c Effect.EndEvent
      → Kept p v z k Step (storing (event_stores v d.count) c (with_place d d.registers (Run b j (c + 1)) d.count) (fresh true) (Answer.Committed b))
  unfolding storing pick task_stores event_stores apply
  event_end_kept e leads zero (l, _) =
      staged p sound v lengths d z k i at_rest still b j x chosen h Count d.count 1 d.count v.pending v.pending_open tt refl Effect.EndEvent e
      (omega arith, (refl, tt))
  event_end_kept e leads (suc zero) (l, (count, _)) =
      staged p sound v lengths d z k i at_rest still b j x chosen h Pending (slot_after v.queue_records v.head) 2 v.count (slot_after v.queue_records v.head) v.pending_open tt refl Effect.EndEvent e
      (omega arith, (count, (refl, tt)))
  event_end_kept e leads (suc (suc zero)) (l, (count, (pending, _))) = event-last p sound v lengths d z k i at_rest still b j x chosen h e leads count pending
  event_end_kept e leads (suc (suc (suc c))) (l, made) = absurd (omega arith)

  pub act-kept : (c : ℕ) (f : Effect) → effect_at p (body_number p b) j d.registers ≡ f → LegalEffect p (body_number p b) j f → EndingAt p v d b c f → Kept p v z k Step (act p v d b j c f)
  unfolding act advance refusal is_in may_meet either
  act-kept c (Effect.Compute a y) e leads t = works p sound v lengths d z k i at_rest still b j x chosen h (Effect.Compute a y) e (j + 1) (set d.registers a y) leads.1 (λ g. refl)
  act-kept c (Effect.Jump a) e leads t = works p sound v lengths d z k i at_rest still b j x chosen h (Effect.Jump a) e a d.registers leads (λ g. refl)
  act-kept c (Effect.Load a y) e leads t =
      pick_case (λ (o : Outcome). Kept p v z k Step o)
      (λ s.
      let below : y < length v.memory = omega (arith, ltb-true y (memory_words p) s, lengths.memory_length) in
      works p sound v lengths d z k i at_rest still b j x chosen h (Effect.Load a y) e (j + 1) _ leads.1
      (λ g. pick_true _ _ s ∙ ap (λ (m : ℕ). walk g p (body_number p b) (j + 1) (set d.registers a m) (overlay v.memory v.log d.count)) (sym (shown_is v d.count y h.distinct below))))
      (λ s. refused-kept p v d z k Step Refusal.Address refl (inr i))
  act-kept c (Effect.Save y w) e leads t =
      pick_case (λ (o : Outcome). Kept p v z k Step o) (λ s. save_kept p sound v lengths d z k i at_rest still b j x chosen h y w e leads (ltb-true _ _ s) (find v.log d.count y) refl)
      (λ s. refused-kept p v d z k Step Refusal.Address refl (inr i))
  act-kept c (Effect.EndTask a) e leads t = task_end_kept a e leads c t
  act-kept c Effect.EndEvent e leads t = event_end_kept e leads c t
  act-kept c Effect.Unknown e leads t = absurd leads
