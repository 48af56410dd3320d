-- The way back to what step and post look at: `Fit` says what these early checks ask of the store by its parts and of the device, and
-- they pass where it holds (`look_passes`). Assumes nothing.
use Prim.Native.Nat.{ℕ, zero, suc, ◌≤◌, ◌<◌}
use mathlib.Core.Path.{◌≡◌, refl, ap, ◌∙◌}
use mathlib.Core.Logic.{⊎_elim, ◌≢◌}
use mathlib.Core.Bool.{Bool, true}
use mathlib.Core.List.{List}
use native.Mathlib.Omega.{arith}
use borrow.Author.Tests.{eqb-true, eqb-false, lt-ltb, le-leb, eq-eqb, ne_eqb}
use lib.Dec.{eqb}
use Rattle.model.proofs.BurstLaws.{burst_passes, known_passes, may_drop_lem}
use Rattle.model.proofs.Passed.{look-passed, early_are}
use Rattle.model.proofs.RuleLaws.{obey_if}
use Rattle.model.proofs.TestLaws.{pick_case, pick_true, clash, same_or, and_true, and_left, or_true_left, or_true_right, not_false, must-true, then_passed, then_first, then_rest}
use Rattle.model.specs.Accepted.{ControlledBy, Controlled, EligibleBy, MayRun, Stands, Attends, Looked, AttendsTo}
use Rattle.model.specs.Check.{contents_rule}
use Rattle.model.specs.Control.{obey_all, phase_rule, task_rule, open_serving, count_rule, pending_task_rule, head_rule, tail_rule, pending_head_rule, pending_move_rule, begun_rule, begun_event_rule, early_rules}
use Rattle.model.specs.Device.{with_handler, eligible, may_run, place_sound, records_sound, zeros, handler_sound, device_sound, look, fits}
use Rattle.model.specs.Program.{tasks}
use Rattle.model.specs.Store.{Store, view, room, store_rule}
use Rattle.model.specs.Test.{◌or◌, either}
use Rattle.model.specs.Types.{Body, Device, Dropping, Free, Half, Handler, Ok, Place, Record, Replacing, Resting, Run, Storing}
use Rattle.model.specs.Burst.{carried}

-- ---- 7: the control words

commits : (n : ℕ) → (eqb n 1 or eqb n 2) ≡ true → n ≢ 0
unfolding either
commits zero e z = clash e refl
commits (suc n) e z = omega arith

pub control_passes : (p : List ℕ) (v : Store) → Controlled p v → obey_all (early_rules p v) ≡ Ok tt
unfolding obey_all phase_rule task_rule open_serving count_rule pending_task_rule pending_head_rule pending_move_rule head_rule tail_rule begun_rule begun_event_rule
control_passes p v h =
    ap obey_all (early_are p v)
    ∙ then_passed (obey_if _ (λ _. le-leb _ _ h.phase_in))
    (then_passed (obey_if _ (λ _. lt-ltb _ _ h.task_in))
    (then_passed (obey_if _ (λ e. eq-eqb _ _ (h.open_none (eqb-true _ _ e))))
    (then_passed (obey_if _ (λ e. le-leb _ _ (h.count_in (commits v.phase e))))
    (then_passed (obey_if _ (λ e. lt-ltb _ _ (h.pending_task (eqb-true _ _ e))))
    (then_passed (obey_if _ (λ e. le-leb _ _ (h.pending_head (eqb-true _ _ e))))
    (then_passed (obey_if _ (λ e. moves (eqb-true _ _ (and_left _ _ e))))
    (then_passed (obey_if _ (λ _. le-leb _ _ h.head_in))
    (then_passed (obey_if _ (λ _. le-leb _ _ h.tail_in))
    (then_passed (obey_if _ (λ _. le-leb _ _ h.begun_in)) (then_passed (obey_if _ (λ e. begins (eqb-true _ _ (and_left _ _ e)))) refl))))))))))
  where
    moves : v.phase ≡ 2 → (pending_move_rule v).kept ≡ true
    moves q =
        ⊎_elim (λ a. or_true_left _ _ (eq-eqb _ _ a))
        (λ a. or_true_right _ _ (and_true (eq-eqb _ _ a.0) (not_false (ne_eqb _ _ a.1)))) (h.pending_is q)

    begins : v.phase ≡ 0 → (begun_event_rule v).kept ≡ true
    begins q =
        same_or v.begun 2 (λ two. let a = h.begun_event q two in or_true_right _ _ (and_true (not_false (ne_eqb _ _ a.0)) (eq-eqb _ _ a.1)))
        (λ ne. or_true_left _ _ (not_false (ne_eqb _ _ ne)))

-- in phase 0 the words 11 to 13 are free
pub control_still : (p : List ℕ) (l q phase task open' n pending h t g : ℕ) → phase ≡ 0 → task < tasks p → h ≤ q → t ≤ q → g ≤ 2
    → (g ≡ 2 → (h ≢ t) × (open' ≡ 0)) → ControlledBy p l q phase task open' n pending h t g
control_still p l q phase task open' n pending h t g z a b c kind event =
    record {
      phase_in = omega (arith, z);
      task_in = a;
      head_in = b;
      tail_in = c;
      count_in = λ ne. absurd (ne z);
      pending_task = λ e. absurd (omega (arith, z, e));
      pending_head = λ e. absurd (omega (arith, z, e));
      pending_is = λ e. absurd (omega (arith, z, e));
      open_none = λ e. absurd (omega (arith, z, e));
      begun_in = kind;
      begun_event = λ e. event;
    }

-- ---- 25: the device

eligible_pass : (p : List ℕ) (v : Store) (b : Body) → EligibleBy p v.task v.open_number v.head v.tail b → eligible p v b ≡ true
unfolding eligible
eligible_pass p v (Body.Task t) m = eq-eqb _ _ m
eligible_pass p v (Body.Event e) m = and_true (lt-ltb _ _ m.0) (and_true (eq-eqb _ _ m.1) (not_false (ne_eqb _ _ m.2)))

may_pass : (p : List ℕ) (v : Store) (b : Body) → MayRun p v b → may_run p v b ≡ true
unfolding may_run
may_pass p v b m = and_true (eligible_pass p v b m.0) (eq-eqb _ _ m.1)

place_passes : (p : List ℕ) (v : Store) (l : ℕ) (x : Place) → Stands p v l x → place_sound p v l x ≡ true
unfolding place_sound
place_passes p v l (Free c) m =
    pick_case (λ (b : Bool). b ≡ true) (λ e. let a = m.0 (eqb-true _ _ e) in and_true (eq-eqb _ _ a.0) (eq-eqb _ _ a.1)) (λ e. lt-ltb _ _ (m.1 (eqb-false _ _ e)))
place_passes p v l (Run b j c) m = and_true (eq-eqb _ _ m.0) (and_true (may_pass p v b m.1) (lt-ltb _ _ m.2))
place_passes p v l (Half b j) m = and_true (eq-eqb _ _ m.0) (and_true (may_pass p v b m.1) (lt-ltb _ _ m.2))

records_pass : (p : List ℕ) (v : Store) (c : ℕ) (rs : List Record) → AttendsTo p v.queue_records v.head v.tail c rs → records_sound p v c rs ≡ true
unfolding records_sound fits room
records_pass p v c rs m =
    and_true (burst_passes _ m.least m.most) (and_true (known_passes p _ m.known) (and_true (le-leb _ _ m.room) (lt-ltb _ _ m.inside)))

pub handler_passes : (p : List ℕ) (v : Store) (burst : List ℕ) (h : Handler) → Attends p v burst h → handler_sound p v burst h ≡ true
unfolding handler_sound
handler_passes p v burst Resting m = m
handler_passes p v burst (Storing n c) m = records_pass p v c (carried burst n) m
handler_passes p v burst Dropping m = and_true (known_passes p _ m.known) (may_drop_lem p v (carried burst 1) m)
handler_passes p v burst (Replacing c) m = records_pass p v c (carried burst 1) m

-- ---- what step and post look at

-- what the checks ask of the store by its parts and of the device
pub record Fit (p : List ℕ) (v : Store) (d : Device) : Type 0 where
  pub control : Controlled p v
  pub on : d.on ≡ true
  pub count_in : d.count ≤ v.log_pairs
  pub place : Stands p v d.count d.place
  pub handler : Attends p v d.burst d.handler

pub early_fit : {p s : List ℕ} {d : Device} → Looked p s d → Fit p (view s) d
early_fit h = record { control = h.control; on = h.on; count_in = h.count_in; place = h.place; handler = h.handler }

pub look_passes : (p s : List ℕ) (d : Device) → contents_rule p ≡ Ok tt → store_rule p s ≡ Ok tt → Fit p (view s) d
    → look p s d ≡ Ok tt
unfolding look device_sound
look_passes p s d contents rule fit =
    let v = view s in
    let rest = and_true (place_passes p v d.count d.place fit.place) (handler_passes p v d.burst d.handler fit.handler) in
    let sound = pick_true _ _ fit.on ∙ and_true (le-leb _ _ fit.count_in) rest in
    then_passed contents
    (then_passed rule (then_passed (control_passes p v fit.control) (then_passed (must-true _ sound) (must-true _ fit.on))))

-- they pass with the handler at rest as well, and without a burst
pub look_rests : (p s : List ℕ) (d : Device) (burst : List ℕ) → zeros burst 8 ≡ true → look p s d ≡ Ok tt
    → look p s (with_handler d Resting burst) ≡ Ok tt
unfolding look with_handler
look_rests p s d burst none e =
    let h = look-passed p s d e in
    look_passes p s (with_handler d Resting burst) (then_first _ _ e) (then_first _ _ (then_rest _ _ e))
    (record { control = h.control; on = h.on; count_in = h.count_in; place = h.place; handler = none })
