-- The checks that a call makes pass where the invariant holds: rule 7, early and whole, 25, and what a step checks of a body.
-- Assumes nothing.
use Prim.Native.Nat.{ℕ, ◌+◌, ◌-◌, ◌≤◌, ◌<◌}
use mathlib.Core.Path.{◌≡◌, refl, ap, ◌∙◌}
use mathlib.Core.Logic.{◌⊎◌, inl, inr, ◌≢◌}
use mathlib.Core.Bool.{Bool, true, false, not}
use mathlib.Core.List.{List, ◌++◌}
use native.Mathlib.Omega.{arith}
use borrow.Author.Tests.{lt-ltb, le-ltb, le-leb, eq-eqb, ne_eqb}
use lib.Dec.{ltb, leb, eqb}
use lib.ListN.{length}
use Rattle.model.proofs.Invariant.{HeldAt, StillAt, CopyingAt, ChosenAt, EndingAt, HalfSaved, BodyAt, Placed, Begins, Resumes, On, HandlesAt, AtWork}
use Rattle.model.proofs.Kept.{chosen-begins, known-waiting, first_head, first-pending, lasting_in, task_last_is, event_last_is}
use Rattle.model.proofs.LogLaws.{addr}
use Rattle.model.proofs.BurstLaws.{burst_passes, known_passes, may_drop_lem}
use Rattle.model.proofs.RingLaws.{Between, between_is, between_first}
use Rattle.model.proofs.TestLaws.{pick_case, pick_true, pick-false, below_or, and_true, or_true_left, or_true_right, not_false, must-true, then_passed, and_false}
use Rattle.model.proofs.RuleLaws.{obey-kept, obey_unasked, obey-append, obey-up_to, obey-early}
use Rattle.model.specs.Accepted.{LegalEffect, Sound}
use Rattle.model.specs.Burst.{carried}
use Rattle.model.specs.Control.{obey, obey_all, up_to, phase_rule, task_rule, open_rule, open_serving, count_rule, pending_task_rule, head_rule, tail_rule, pending_head_rule, pending_move_rule, pending_open_rule, begun_rule, begun_event_rule, address_rule, between, record_rule, control_rules, rules, early_rules}
use Rattle.model.specs.Device.{task_stores, event_stores, eligible, may_run, end_stores, place_sound, records_sound, zeros, handler_sound, device_sound, record_sound, head_sound, named_row, open_sound, head_is, ends, saves, place_fits, body_sound, fits}
use Rattle.model.specs.Program.{tasks, events, memory_words, instructions, transaction, body_number, effect_at}
use Rattle.model.specs.Serial.{Serial}
use Rattle.model.specs.Store.{Store, event, slot_after, first_waiting, distance, room, Write}
use Rattle.model.specs.Test.{◌or◌, both, either}
use Rattle.model.specs.Types.{Body, Device, Dropping, Effect, Free, Half, Handler, Ok, Option, Place, Record, Replacing, Resting, Run, Storing}

-- ---- what the invariant says of the control words

abbrev pub OpenIn : List ℕ → ℕ → ℕ → Type 0
OpenIn p o t = (o ≡ 0) ⊎ (o ≡ transaction p t)

pub record Copies (p : List ℕ) (v : Store) : Type 0 where
  pub count_in : v.count ≤ v.log_pairs
  pub addresses : (j : ℕ) → j < v.count → addr v.log j < memory_words p

pub data Phases (p : List ℕ) (v : Store) : Type 0 where
  runs : v.phase ≡ 0 → OpenIn p v.open_number v.task → Begins v → Phases p v
  ends-task : v.phase ≡ 1 → Copies p v → v.pending < tasks p → OpenIn p v.pending_open v.pending → Phases p v
  ends-event : v.phase ≡ 2 → Copies p v → v.open_number ≡ 0 → v.pending ≤ v.queue_records
      → (v.pending ≡ v.head) ⊎ ((v.pending ≡ slot_after v.queue_records v.head) × (v.head ≢ v.tail)) → Phases p v

module _ (p : List ℕ) (v : Store) (z : Serial) (held : HeldAt p v z) where
  copies : (c : ℕ) → CopyingAt p v z c → Copies p v
  copies c m = record { count_in = m.count_in; addresses = m.addresses }

  phases : Resumes p v z → Phases p v
  phases (inl (s, g)) = runs s.phase_is (rw (s.open_is, s.task_is) held.tasked.open_in) g
  phases (inr (m, inl t)) =
      ends-task t.phase_is (copies 0 m) (rw t.pending_is held.tasked.task_in) (rw (t.pending_open_is, t.pending_is) held.tasked.open_in)
  phases (inr (m, inr t)) =
      ends-event t.phase_is (copies 0 m) t.open_none (rw (first-pending v t.phase_is) at held.waits.first_in) t.pending_is

  task-below : Resumes p v z → v.task < tasks p
  task-below (inl (s, g)) = rw s.task_is held.tasked.task_in
  task-below (inr (m, inl t)) = t.task_in
  task-below (inr (m, inr t)) = rw t.task_is held.tasked.task_in

-- ---- rule 7

open_test : (p : List ℕ) (o t : ℕ) → OpenIn p o t → (eqb o 0 or eqb o (transaction p t)) ≡ true
open_test p o t (inl e) = or_true_left _ _ (eq-eqb _ _ e)
open_test p o t (inr e) = or_true_right _ _ (eq-eqb _ _ e)

module _ (p : List ℕ) (v : Store) where
  in_phase_lem : (n m : ℕ) → v.phase ≡ n → eqb n m ≡ false → eqb v.phase m ≡ false
  in_phase_lem n m e f = ap (λ (x : ℕ). eqb x m) e ∙ f

  phase_obeyed : Phases p v → obey (phase_rule v) ≡ Ok tt
  unfolding phase_rule
  phase_obeyed (runs e o g) = obey-kept (phase_rule v) (ap (λ (x : ℕ). leb x 2) e)
  phase_obeyed (ends-task e c t o) = obey-kept (phase_rule v) (ap (λ (x : ℕ). leb x 2) e)
  phase_obeyed (ends-event e c o l h) = obey-kept (phase_rule v) (ap (λ (x : ℕ). leb x 2) e)

  task_obeyed : v.task < tasks p → obey (task_rule p v) ≡ Ok tt
  unfolding task_rule
  task_obeyed l = obey-kept (task_rule p v) (lt-ltb _ _ l)

  pub open_obeyed : Phases p v → obey (open_rule p v) ≡ Ok tt
  unfolding open_rule both
  open_obeyed (runs e o g) = obey-kept (open_rule p v) (open_test p v.open_number v.task o)
  open_obeyed (ends-task e c t o) = obey_unasked (open_rule p v) (rw (in_phase_lem 1 0 e refl))
  open_obeyed (ends-event e c o l h) = obey_unasked (open_rule p v) (rw (in_phase_lem 2 0 e refl))

  serving_obeyed : Phases p v → obey (open_serving v) ≡ Ok tt
  unfolding open_serving
  serving_obeyed (runs e o g) = obey_unasked (open_serving v) (in_phase_lem 0 2 e refl)
  serving_obeyed (ends-task e c t o) = obey_unasked (open_serving v) (in_phase_lem 1 2 e refl)
  serving_obeyed (ends-event e c o l h) = obey-kept (open_serving v) (eq-eqb _ _ o)

  count_obeyed : Phases p v → obey (count_rule v) ≡ Ok tt
  unfolding count_rule either
  count_obeyed (runs e o g) = obey_unasked (count_rule v) (rw (in_phase_lem 0 1 e refl, in_phase_lem 0 2 e refl))
  count_obeyed (ends-task e c t o) = obey-kept (count_rule v) (le-leb _ _ c.count_in)
  count_obeyed (ends-event e c o l h) = obey-kept (count_rule v) (le-leb _ _ c.count_in)

  pending_obeyed : Phases p v → obey (pending_task_rule p v) ≡ Ok tt
  unfolding pending_task_rule
  pending_obeyed (runs e o g) = obey_unasked (pending_task_rule p v) (in_phase_lem 0 1 e refl)
  pending_obeyed (ends-task e c t o) = obey-kept (pending_task_rule p v) (lt-ltb _ _ t)
  pending_obeyed (ends-event e c o l h) = obey_unasked (pending_task_rule p v) (in_phase_lem 2 1 e refl)

  pending_open_obeyed : Phases p v → obey (pending_open_rule p v) ≡ Ok tt
  unfolding pending_open_rule both
  pending_open_obeyed (runs e o g) = obey_unasked (pending_open_rule p v) (rw (in_phase_lem 0 1 e refl))
  pending_open_obeyed (ends-task e c t o) = obey-kept (pending_open_rule p v) (open_test p v.pending_open v.pending o)
  pending_open_obeyed (ends-event e c o l h) = obey_unasked (pending_open_rule p v) (rw (in_phase_lem 2 1 e refl))

  head_obeyed : v.head ≤ v.queue_records → obey (head_rule v) ≡ Ok tt
  unfolding head_rule
  head_obeyed l = obey-kept (head_rule v) (le-leb _ _ l)

  tail_obeyed : v.tail ≤ v.queue_records → obey (tail_rule v) ≡ Ok tt
  unfolding tail_rule
  tail_obeyed l = obey-kept (tail_rule v) (le-leb _ _ l)

  pending_head_obeyed : Phases p v → obey (pending_head_rule v) ≡ Ok tt
  unfolding pending_head_rule both
  pending_head_obeyed (runs e o g) = obey_unasked (pending_head_rule v) (rw (in_phase_lem 0 2 e refl))
  pending_head_obeyed (ends-task e c t o) = obey_unasked (pending_head_rule v) (rw (in_phase_lem 1 2 e refl))
  pending_head_obeyed (ends-event e c o l h) = obey-kept (pending_head_rule v) (le-leb _ _ l)

  pending_move_obeyed : Phases p v → obey (pending_move_rule v) ≡ Ok tt
  unfolding pending_move_rule both
  pending_move_obeyed (runs e o g) = obey_unasked (pending_move_rule v) (rw (in_phase_lem 0 2 e refl))
  pending_move_obeyed (ends-task e c t o) = obey_unasked (pending_move_rule v) (rw (in_phase_lem 1 2 e refl))
  pending_move_obeyed (ends-event e c o l (inl h)) = obey-kept (pending_move_rule v) (or_true_left _ _ (eq-eqb _ _ h))
  pending_move_obeyed (ends-event e c o l (inr (h, ne))) =
      obey-kept (pending_move_rule v) (or_true_right _ _ (and_true (eq-eqb _ _ h) (not_false (ne_eqb _ _ ne))))

  begun_obeyed : v.begun ≤ 2 → obey (begun_rule v) ≡ Ok tt
  unfolding begun_rule
  begun_obeyed l = obey-kept (begun_rule v) (le-leb _ _ l)

  begun_event_obeyed : Phases p v → obey (begun_event_rule v) ≡ Ok tt
  unfolding begun_event_rule both
  begun_event_obeyed (runs e o (inl g)) = obey-kept (begun_event_rule v) (or_true_left _ _ (ap (λ (n : ℕ). not (eqb n 2)) g))
  begun_event_obeyed (runs e o (inr (inl g))) = obey-kept (begun_event_rule v) (or_true_left _ _ (ap (λ (n : ℕ). not (eqb n 2)) g))
  begun_event_obeyed (runs e o (inr (inr (g, (open', ne))))) =
      obey-kept (begun_event_rule v) (or_true_right _ _ (and_true (not_false (ne_eqb _ _ ne)) (eq-eqb _ _ open')))
  begun_event_obeyed (ends-task e c t o) = obey_unasked (begun_event_rule v) (rw (in_phase_lem 1 0 e refl))
  begun_event_obeyed (ends-event e c o l h) = obey_unasked (begun_event_rule v) (rw (in_phase_lem 2 0 e refl))

  address_in : Copies p v → (j : ℕ) → obey (address_rule p v j) ≡ Ok tt
  unfolding address_rule
  address_in c j =
      below_or j v.count (λ l. obey-kept (address_rule p v j) (lt-ltb _ _ (c.addresses j l)))
      (λ l. obey_unasked (address_rule p v j) (and_false _ _ (and_false _ _ (le-ltb _ _ l))))

  address_obeyed : Phases p v → (j : ℕ) → obey (address_rule p v j) ≡ Ok tt
  unfolding address_rule both either
  address_obeyed (runs e o g) j = obey_unasked (address_rule p v j) (rw (in_phase_lem 0 1 e refl, in_phase_lem 0 2 e refl))
  address_obeyed (ends-task e c t o) j = address_in c j
  address_obeyed (ends-event e c o l h) j = address_in c j

  record_obeyed : ((x : ℕ) → x ≤ v.queue_records → Between (first_waiting v) v.tail x → event v x < events p)
      → (x : ℕ) → x ≤ v.queue_records → obey (record_rule p v x) ≡ Ok tt
  unfolding record_rule
  record_obeyed known x l = go (between (first_waiting v) v.tail x) refl
    where
      go : (b : Bool) → between (first_waiting v) v.tail x ≡ b → obey (record_rule p v x) ≡ Ok tt
      go true e = obey-kept (record_rule p v x) (lt-ltb _ _ (known x l (between_is _ _ _ e)))
      go false e = obey_unasked (record_rule p v x) (and_false _ _ (and_false _ _ (and_false _ _ (and_false _ _ e))))

-- 7 whole, as boot has it, and what step and post look at early: both hold of the store, whatever the device
module _ (p : List ℕ) (v : Store) (z : Serial) (held : HeldAt p v z) (resumes : Resumes p v z) where
  ph : Phases p v
  ph = phases p v z held resumes

  task_ok : obey (task_rule p v) ≡ Ok tt
  task_ok = task_obeyed p v (task-below p v z held resumes)

  control_obeyed : obey_all (control_rules p v) ≡ Ok tt
  unfolding control_rules obey_all
  control_obeyed =
      then_passed (phase_obeyed p v ph)
      (then_passed task_ok
      (then_passed (open_obeyed p v ph)
      (then_passed (serving_obeyed p v ph)
      (then_passed (count_obeyed p v ph)
      (then_passed (pending_obeyed p v ph)
      (then_passed (pending_head_obeyed p v ph)
      (then_passed (pending_move_obeyed p v ph)
      (then_passed (pending_open_obeyed p v ph)
      (then_passed (head_obeyed p v held.head_in)
      (then_passed (tail_obeyed p v held.waits.tail_in)
      (then_passed (begun_obeyed p v held.begun_in) (then_passed (begun_event_obeyed p v ph) refl))))))))))))

  pub rules_obeyed : obey_all (rules p v) ≡ Ok tt
  unfolding rules
  rules_obeyed =
      obey-append (control_rules p v ++ up_to (address_rule p v) v.log_pairs) (up_to (record_rule p v) (v.queue_records + 1))
      (obey-append (control_rules p v) (up_to (address_rule p v) v.log_pairs) control_obeyed
      (obey-up_to (address_rule p v) v.log_pairs (λ j l. address_obeyed p v ph j)))
      (obey-up_to (record_rule p v) (v.queue_records + 1) (λ x l. record_obeyed p v (known-waiting held.waits) x (omega arith)))

  pub early_obeyed : obey_all (early_rules p v) ≡ Ok tt
  unfolding early_rules
  early_obeyed = obey-early (rules p v) rules_obeyed

-- ---- 25

module _ (p : List ℕ) (v : Store) (d : Device) (z : Serial) (k : ℕ) (i : On p v d z k) where
  is_eligible : (b : Body) (x : ℕ) → ChosenAt v x b → body_number p b < tasks p + events p → eligible p v b ≡ true
  unfolding eligible body_number
  is_eligible (Body.Task t) x (m, g) l = eq-eqb _ _ m.0
  is_eligible (Body.Event e) x (m, g) l =
      let below : e < events p = omega arith in
      and_true (lt-ltb _ _ below) (and_true (eq-eqb _ _ m.0) (not_false (ne_eqb _ _ m.1.0)))

  may_run_lem : (b : Body) (x : ℕ) → ChosenAt v x b → body_number p b < tasks p + events p → may_run p v b ≡ true
  unfolding may_run
  may_run_lem b x m l = and_true (is_eligible b x m l) (eq-eqb _ _ m.1)

  -- stores of a body's end that are made
  ends_four : (b : Body) (c : ℕ) (f : Effect) → EndingAt p v d b c f → c < 4
  unfolding task_stores event_stores
  ends_four b c (Effect.Compute a x) t = omega arith
  ends_four b c (Effect.Jump a) t = omega arith
  ends_four b c (Effect.Load a x) t = omega arith
  ends_four b c (Effect.Save x y) t = omega arith
  ends_four b c (Effect.EndTask a) t = t.0
  ends_four b c Effect.EndEvent t = omega (arith, t.0)
  ends_four b c Effect.Unknown t = absurd t

  ends-three : (b : Body) (e j c : ℕ) (f : Effect) → LegalEffect p (tasks p + e) j f → EndingAt p v d b c f → c < 3
  unfolding event_stores
  ends-three b e j c (Effect.Compute a x) l t = omega arith
  ends-three b e j c (Effect.Jump a) l t = omega arith
  ends-three b e j c (Effect.Load a x) l t = omega arith
  ends-three b e j c (Effect.Save x y) l t = omega arith
  ends-three b e j c (Effect.EndTask a) l t = absurd (omega (arith, l.1))
  ends-three b e j c Effect.EndEvent l t = t.0
  ends-three b e j c Effect.Unknown l t = absurd t

  ends_in : (b : Body) (j c : ℕ) (f : Effect) → LegalEffect p (body_number p b) j f → EndingAt p v d b c f → c < end_stores b
  unfolding end_stores body_number
  ends_in (Body.Task t) j c f l s = ends_four (Body.Task t) c f s
  ends_in (Body.Event e) j c f l s = ends-three (Body.Event e) e j c f l s

  half_in : (l : ℕ) (f : Effect) → HalfSaved p v.log v.log_pairs l f → l < v.log_pairs
  half_in l (Effect.Compute a x) h = absurd h
  half_in l (Effect.Jump a) h = absurd h
  half_in l (Effect.Load a x) h = absurd h
  half_in l (Effect.Save x y) h = h.1.0
  half_in l (Effect.EndTask a) h = absurd h
  half_in l Effect.EndEvent h = absurd h
  half_in l Effect.Unknown h = absurd h

  place-sound : Sound p → (x : Place) → Placed p v d z k x → place_sound p v d.count x ≡ true
  unfolding place_sound
  place-sound sound (Free c) (inl (s, (e, g))) = pick_true _ _ (eq-eqb _ _ s.phase_is) ∙ and_true (eq-eqb _ _ e) (eq-eqb _ _ g)
  place-sound sound (Free c) (inr (m, inl t)) =
      pick-false _ _ (in_phase_lem p v 1 0 t.phase_is refl)
      ∙ ap (λ (ws : List Write). ltb c (v.count + length ws)) (task_last_is v t.phase_is)
      ∙ lt-ltb _ _ (lasting_in t.lasting)
  place-sound sound (Free c) (inr (m, inr t)) =
      pick-false _ _ (in_phase_lem p v 2 0 t.phase_is refl)
      ∙ ap (λ (ws : List Write). ltb c (v.count + length ws)) (event_last_is v t.phase_is)
      ∙ lt-ltb _ _ (lasting_in t.lasting)
  place-sound sound (Run b j c) ((s, (x, m, r)), e) =
      and_true (eq-eqb _ _ s.phase_is)
      (and_true (may_run_lem b x m r.body_in)
      (lt-ltb _ _ (ends_in b j c (effect_at p (body_number p b) j d.registers) (sound.legal (body_number p b) j d.registers r.body_in r.place_in) e)))
  place-sound sound (Half b j) ((s, (x, m, r)), e) =
      and_true (eq-eqb _ _ s.phase_is)
      (and_true (may_run_lem b x m r.body_in) (lt-ltb _ _ (half_in d.count (effect_at p (body_number p b) j d.registers) e)))

  records-sound : (c : ℕ) (rs : List Record) (dropped : Option Record)
      → AtWork p v.queue v.queue_records v.head v.tail z.posting c rs dropped → records_sound p v c rs ≡ true
  unfolding records_sound fits room
  records-sound c rs dropped a =
      let fits : length rs ≤ v.queue_records - distance v.queue_records v.head v.tail = omega (arith, a.room) in
      and_true (burst_passes _ a.least a.most) (and_true (known_passes p _ a.known) (and_true (le-leb _ _ fits) (lt-ltb _ _ a.inside)))

  handler-sound : (h : Handler) → HandlesAt p v z d.burst h → handler_sound p v d.burst h ≡ true
  unfolding handler_sound zeros both
  handler-sound Resting a = ap (λ (ws : List ℕ). zeros ws 8) a
  handler-sound (Storing n c) a = records-sound c (carried d.burst n) _ a
  handler-sound Dropping (m, ne, posted_is) = and_true (known_passes p _ m.known) (may_drop_lem p v (carried d.burst 1) m)
  handler-sound (Replacing c) a = records-sound c (carried d.burst 1) _ a

  pub device-sound : Sound p → device_sound p v d ≡ true
  unfolding device_sound
  device-sound sound =
      pick_true _ _ i.on
      ∙ and_true (le-leb _ _ i.count_in) (and_true (place-sound sound d.place i.placed) (handler-sound d.handler i.handles))

  -- ---- what a step checks of a body

  head-sound : (b : Body) (x : ℕ) → StillAt v z → ChosenAt v x b → head_sound p v b ≡ Ok tt
  unfolding head_sound record_sound
  head-sound (Body.Task t) x s m = refl
  head-sound (Body.Event e) x s m =
      must-true _
      (lt-ltb _ _
      (known-waiting i.held.waits v.head i.held.head_in (rw (first_head v 0 s.phase_is refl) (between_first v.head v.tail m.0.1.0))))

  open_number_sound : (b : Body) → StillAt v z → Begins v → open_sound p v b ≡ Ok tt
  unfolding open_sound
  open_number_sound (Body.Task t) s g = open_obeyed p v (phases p v z i.held (inl (s, g)))
  open_number_sound (Body.Event e) s g = refl

  head_record_is : (b : Body) (x : ℕ) → ChosenAt v x b → head_is v b ≡ true
  unfolding head_is
  head_record_is (Body.Task t) x m = refl
  head_record_is (Body.Event e) x m = eq-eqb _ _ m.0.1.1.0

  named-row : Sound p → (n j : ℕ) (f : Effect) → LegalEffect p n j f → named_row p f ≡ Ok tt
  unfolding named_row
  named-row sound n j (Effect.Compute a x) l = refl
  named-row sound n j (Effect.Jump a) l = refl
  named-row sound n j (Effect.Load a x) l = refl
  named-row sound n j (Effect.Save x y) l = refl
  named-row sound n j (Effect.EndTask a) l = sound.row a (omega (arith, l.0))
  named-row sound n j Effect.EndEvent l = refl
  named-row sound n j Effect.Unknown l = refl

  pub body-sound : Sound p → (y : Place) (b : Body) (j : ℕ) → BodyAt p v d z k b j → place_fits y (effect_at p (body_number p b) j d.registers) ≡ true
      → body_sound p v y b j (effect_at p (body_number p b) j d.registers) ≡ Ok tt
  unfolding body_sound
  body-sound sound y b j (s, (x, m, r)) fits =
      let n = body_number p b in
      let there : ltb j (instructions p n) ≡ true = lt-ltb _ _ r.place_in in
      then_passed (head-sound b x s m)
      (then_passed sound.inside
      (then_passed (sound.row n r.body_in)
      (then_passed
      (pick_true _ _ there
      ∙ then_passed (sound.rule n j r.body_in r.place_in)
      (named-row sound n j _ (sound.legal n j d.registers r.body_in r.place_in)))
      (then_passed (open_number_sound b s (chosen-begins v b x m)) (must-true _ (and_true there (and_true (head_record_is b x m) fits)))))))

  pub run_fits : (b : Body) (j c : ℕ) (f : Effect) → EndingAt p v d b c f → place_fits (Run b j c) f ≡ true
  unfolding place_fits ends
  run_fits b j c (Effect.Compute a x) t = pick_true _ _ (eq-eqb _ _ t)
  run_fits b j c (Effect.Jump a) t = pick_true _ _ (eq-eqb _ _ t)
  run_fits b j c (Effect.Load a x) t = pick_true _ _ (eq-eqb _ _ t)
  run_fits b j c (Effect.Save x y) t = pick_true _ _ (eq-eqb _ _ t)
  run_fits b j c (Effect.EndTask a) t = pick_case (λ (o : Bool). o ≡ true) (λ e. refl) (λ e. refl)
  run_fits b j c Effect.EndEvent t = pick_case (λ (o : Bool). o ≡ true) (λ e. refl) (λ e. refl)
  run_fits b j c Effect.Unknown t = absurd t

  pub half_fits : (b : Body) (j l : ℕ) (f : Effect) → HalfSaved p v.log v.log_pairs l f → place_fits (Half b j) f ≡ true
  unfolding place_fits saves
  half_fits b j l (Effect.Compute a x) h = absurd h
  half_fits b j l (Effect.Jump a) h = absurd h
  half_fits b j l (Effect.Load a x) h = absurd h
  half_fits b j l (Effect.Save x y) h = refl
  half_fits b j l (Effect.EndTask a) h = absurd h
  half_fits b j l Effect.EndEvent h = absurd h
  half_fits b j l Effect.Unknown h = absurd h
