-- What the other accepted checks give, by the names of specs/Accepted.antt: an instruction's registers, the store's contents, the early
-- control words, what step and post look at, and a body at an instruction. Nothing that demand 3 rests on. Assumes nothing.
use Prim.Native.Nat.{ℕ, zero, suc, ◌+◌, ◌≤◌, ◌<◌}
use mathlib.Core.Path.{◌≡◌, refl, sym, ◌∙◌}
use mathlib.Core.Logic.{◌⊎◌, inl, inr, ⊎_elim}
use mathlib.Core.Bool.{Bool, true, false}
use mathlib.Core.List.{List, [], ◌∷◌, ◌++◌}
use native.Mathlib.Omega.{arith}
use borrow.Author.Tests.{ltb-true, leb-true, eqb-true, eqb-false, eq-eqb, ne_eqb, not-true}
use lib.Dec.{ltb}
use lib.ListN.{length}
use Rattle.model.proofs.ProgramLaws.{◌&◌, by_opcode, Fits, check-passed, contents-passed, inside-passed, row-passed, rows-passed, used_passed, instruction_leads}
use Rattle.model.proofs.BurstLaws.{burst-passed, known-passed, may_drop_is}
use Rattle.model.proofs.RuleLaws.{obeyed, obey-early}
use Rattle.model.proofs.StoreLaws.{Sized}
use Rattle.model.proofs.TestLaws.{pick_true, pick-false, same_or, and_true, and_left, and_right, or_true_left, or_true_right, must-passed, must_then, then_first, then_rest, clash}
use Rattle.model.specs.Accepted.{Contents, Registers, Legal, Sizes, ShapedFor, Controlled, Bootable, EligibleBy, MayRun, Stands, Attends, Looked, BodyIs, AttendsTo}
use Rattle.model.specs.Burst.{carried}
use Rattle.model.specs.Check.{fields_fit, instruction_rule}
use Rattle.model.specs.Control.{obey_all, phase_rule, task_rule, open_serving, count_rule, pending_task_rule, head_rule, tail_rule, pending_head_rule, pending_move_rule, begun_rule, begun_event_rule, early_rules, Rule, up_to, open_rule, pending_open_rule, address_rule, record_rule, control_rules, rules, early_of}
use Rattle.model.specs.Device.{eligible, may_run, place_sound, records_sound, handler_sound, device_sound, look, boot_check, body_sound, fits}
use Rattle.model.specs.Program.{word, tasks, memory_words, instructions, body_number, opcode, field_a, field_b, code, operand, bounds, decode}
use Rattle.model.specs.Store.{Store, view, room, log_at, queue_at, store_length, store_rule, sizes_rule}
use Rattle.model.specs.Test.{◌or◌, pick, either}
use Rattle.model.specs.Types.{Body, Device, Dropping, Effect, Free, Half, Handler, Instruction, Ok, Place, Record, Replacing, Resting, Run, Storing}

-- ---- an instruction

registers : (p : List ℕ) (i a b k op : ℕ) → Fits p i a b k (λ (_ : ℕ) (x : Instruction). Registers x) op (bounds (memory_words p) (tasks p) (instructions p i) (ltb i (tasks p)) op) (decode op a b k)
registers p i a b k =
    by_opcode p i a b k (λ (_ : ℕ) (x : Instruction). Registers x)
    ((λ x y z. x)  -- SET
    & (λ x y z. (x, y))  -- MOV
    & (λ x y z. (x, y))  -- ADD
    & (λ x y z. (x, y))  -- SUB
    & (λ x y z. (x, y))  -- AND
    & (λ x y z. (x, y))  -- OR
    & (λ x y z. (x, y))  -- XOR
    & (λ x y z. (x, z))  -- SHR
    & (λ x y z. x)  -- LOAD
    & (λ x y z. x)  -- SAVE
    & (λ x y z. (x, y))  -- LOADX
    & (λ x y z. (x, y))  -- SAVEX
    & (λ x y z. tt)  -- JUMP
    & (λ x y z. x)  -- JZ
    & (λ x y z. (x, y))  -- JLT
    & (λ x y z. tt)  -- GO
    & (λ x y z. tt)  -- DONE
    & tt)

pub rule-passed : (p : List ℕ) (i j : ℕ) → j < instructions p i → instruction_rule p i j ≡ Ok tt → Legal p i j
unfolding instruction_rule fields_fit
rule-passed p i j h e =
    let w = code p i j in
    let fits = must-passed _ _ (then_first _ _ e) in
    record {
      registers =
          registers p i (field_a w) (field_b w) (operand p i j) (opcode w) (ltb-true _ _ (and_left _ _ fits))
          (ltb-true _ _ (and_left _ _ (and_right _ _ fits))) (ltb-true _ _ (and_right _ _ (and_right _ _ fits)));
      effect = λ r. instruction_leads p i j r h e;
    }

-- ---- 6: the store's contents

pub sizes-passed : (l q : ℕ) → sizes_rule l q ≡ true → Sizes l q
unfolding sizes_rule
sizes-passed l q e =
    let e1 = and_right _ _ e in
    let e2 = and_right _ _ e1 in
    record {
      some_pairs = leb-true _ _ (and_left _ _ e);
      most_pairs = leb-true _ _ (and_left _ _ e1);
      some_records = leb-true _ _ (and_left _ _ e2);
      most_records = leb-true _ _ (and_right _ _ e2);
    }

pub store-passed : (p s : List ℕ) → Contents p → store_rule p s ≡ Ok tt → ShapedFor p s
unfolding store_rule
store-passed p s c e =
    let (long, e1) = must_then _ _ _ e in
    let (mark, e2) = must_then _ _ _ e1 in
    let (memory, e3) = must_then _ _ _ e2 in
    let (limits, e4) = must_then _ _ _ e3 in
    let (control, e5) = must_then _ _ _ e4 in
    let (memoryStart, e6) = must_then _ _ _ e5 in
    let (logStart, e7) = must_then _ _ _ e6 in
    let (queueStart, e8) = must_then _ _ _ e7 in
    let is : word s 1 ≡ memory_words p = eqb-true _ _ memory in
    let log : word s 6 ≡ log_at (memory_words p) = eqb-true _ _ logStart in
    let queue : word s 7 ≡ queue_at (memory_words p) (word s 2) = eqb-true _ _ queueStart in
    let whole : length s ≡ store_length (memory_words p) (word s 2) (word s 3) = eqb-true _ _ (must-passed _ _ e8) in
    record {
      shaped =
          record {
            most_memory = omega arith;
            sizes = sizes-passed _ _ limits;
            memory_start = eqb-true _ _ memoryStart;
            log_start = omega arith;
            queue_start = omega arith;
            length_is = omega arith;
          };
      memory = is;
    }

pub sized : {p s : List ℕ} → ShapedFor p s → Sized (memory_words p) (word s 2) (word s 3) s
sized h = record { length_is = omega (arith, h.shaped.length_is, h.memory); memory_is = h.memory; pairs_is = refl; records_is = refl }

-- ---- 7, early: the control words

or_cases : (a b : Bool) → (a or b) ≡ true → (a ≡ true) ⊎ (b ≡ true)
unfolding either
or_cases true b e = inl refl
or_cases false b e = inr e

early-left : (rs ss : List Rule) → early_of ss ≡ [] → early_of (rs ++ ss) ≡ early_of rs
unfolding early_of
early-left [] ss e = e
early-left (r ∷ rs) ss e = rw (early-left rs ss e)

early-up_to : (f : ℕ → Rule) → ((j : ℕ) → (f j).early ≡ false) → (n : ℕ) → early_of (up_to f n) ≡ []
unfolding early_of up_to
early-up_to f late zero = refl
early-up_to f late (suc n) = early-left (up_to f n) (f n ∷ []) (pick-false _ _ (late n)) ∙ early-up_to f late n

-- which the early rules are
pub early_are : (p : List ℕ) (v : Store) → early_rules p v ≡ phase_rule v ∷ task_rule p v ∷ open_serving v ∷ count_rule v ∷ pending_task_rule p v ∷ pending_head_rule v ∷ pending_move_rule v ∷ head_rule v ∷ tail_rule v ∷ begun_rule v ∷ begun_event_rule v ∷ []
unfolding early_rules early_of rules control_rules phase_rule task_rule open_rule open_serving count_rule pending_task_rule pending_head_rule pending_move_rule pending_open_rule head_rule tail_rule begun_rule begun_event_rule address_rule record_rule pick
early_are p v =
    early-left (control_rules p v ++ up_to (address_rule p v) v.log_pairs) (up_to (record_rule p v) (v.queue_records + 1))
    (early-up_to (record_rule p v) (λ x. refl) (v.queue_records + 1))
    ∙ early-left (control_rules p v) (up_to (address_rule p v) v.log_pairs) (early-up_to (address_rule p v) (λ j. refl) v.log_pairs)

pub control-passed : (p : List ℕ) (v : Store) → obey_all (early_rules p v) ≡ Ok tt → Controlled p v
unfolding obey_all phase_rule task_rule open_serving count_rule pending_task_rule pending_head_rule pending_move_rule head_rule tail_rule begun_rule begun_event_rule
control-passed p v e =
    let e0 = rw (early_are p v) at e in
    let e1 = then_rest _ _ e0 in
    let e2 = then_rest _ _ e1 in
    let e3 = then_rest _ _ e2 in
    let e4 = then_rest _ _ e3 in
    let e5 = then_rest _ _ e4 in
    let e6 = then_rest _ _ e5 in
    let e7 = then_rest _ _ e6 in
    let e8 = then_rest _ _ e7 in
    let e9 = then_rest _ _ e8 in
    let e10 = then_rest _ _ e9 in
    let phase : v.phase ≤ 2 = leb-true _ _ (obeyed _ (then_first _ _ e0) refl) in
    let head = obeyed _ (then_first _ _ e7) refl in
    let tail = obeyed _ (then_first _ _ e8) refl in
    record {
      phase_in = phase;
      task_in = ltb-true _ _ (obeyed _ (then_first _ _ e1) refl);
      head_in = leb-true _ _ head;
      tail_in = leb-true _ _ tail;
      count_in =
          λ ne.
          leb-true _ _
          (obeyed _ (then_first _ _ e3)
          (same_or v.phase 1 (λ q. or_true_left _ _ (eq-eqb _ _ q)) (λ n. or_true_right _ _ (eq-eqb v.phase 2 (omega arith)))));
      pending_task = λ q. ltb-true _ _ (obeyed _ (then_first _ _ e4) (eq-eqb _ _ q));
      pending_head = λ q. leb-true _ _ (obeyed _ (then_first _ _ e5) (eq-eqb _ _ q));
      pending_is =
          λ q.
          ⊎_elim (λ a. inl (eqb-true _ _ a)) (λ a. inr (eqb-true _ _ (and_left _ _ a), eqb-false _ _ (not-true _ (and_right _ _ a))))
          (or_cases _ _ (obeyed _ (then_first _ _ e6) (and_true (eq-eqb _ _ q) (and_true head tail))));
      open_none = λ q. eqb-true _ _ (obeyed _ (then_first _ _ e2) (eq-eqb _ _ q));
      begun_in = leb-true _ _ (obeyed _ (then_first _ _ e9) refl);
      begun_event =
          λ q two.
          ⊎_elim (λ a. clash (eq-eqb _ _ two) (not-true _ a)) (λ a. (eqb-false _ _ (not-true _ (and_left _ _ a)), eqb-true _ _ (and_right _ _ a)))
          (or_cases _ _ (obeyed _ (then_first _ _ e10) (and_true (eq-eqb _ _ q) (and_true head tail))));
    }

-- ---- what a boot checks of the store

pub boot-passed : (p s : List ℕ) (d : Device) → boot_check p s d ≡ Ok tt → Bootable p s
unfolding boot_check early_rules
boot-passed p s d e0 =
    let e1 = then_rest _ _ e0 in
    record {
      shaped = store-passed p s (check-passed p (then_first _ _ e0)).rows.contents (then_first _ _ e1);
      head_in = (control-passed p (view s) (obey-early (rules p (view s)) (then_first _ _ (then_rest _ _ e1)))).head_in;
    }

-- ---- 25, early: the device

is_eligible : (p : List ℕ) (v : Store) (b : Body) → eligible p v b ≡ true → EligibleBy p v.task v.open_number v.head v.tail b
unfolding eligible
is_eligible p v (Body.Task t) e = eqb-true _ _ e
is_eligible p v (Body.Event n) e =
    let f = and_right _ _ e in
    (ltb-true _ _ (and_left _ _ e), eqb-true _ _ (and_left _ _ f), eqb-false _ _ (not-true _ (and_right _ _ f)))

may_run_lem : (p : List ℕ) (v : Store) (b : Body) → may_run p v b ≡ true → MayRun p v b
unfolding may_run
may_run_lem p v b e = (is_eligible p v b (and_left _ _ e), eqb-true _ _ (and_right _ _ e))

stands : (p : List ℕ) (v : Store) (l : ℕ) (x : Place) → place_sound p v l x ≡ true → Stands p v l x
unfolding place_sound
stands p v l (Free c) e = (
  λ q. let f = sym (pick_true _ _ (eq-eqb _ _ q)) ∙ e in (eqb-true _ _ (and_left _ _ f), eqb-true _ _ (and_right _ _ f)),
  λ ne. ltb-true _ _ (sym (pick-false _ _ (ne_eqb _ _ ne)) ∙ e),
)
stands p v l (Run b j c) e =
    let f = and_right _ _ e in
    (eqb-true _ _ (and_left _ _ e), may_run_lem p v b (and_left _ _ f), ltb-true _ _ (and_right _ _ f))
stands p v l (Half b j) e =
    let f = and_right _ _ e in
    (eqb-true _ _ (and_left _ _ e), may_run_lem p v b (and_left _ _ f), ltb-true _ _ (and_right _ _ f))

attends_to : (p : List ℕ) (v : Store) (c : ℕ) (rs : List Record) → records_sound p v c rs ≡ true
    → AttendsTo p v.queue_records v.head v.tail c rs
unfolding records_sound fits room
attends_to p v c rs e =
    let (least, most) = burst-passed rs (and_left _ _ e) in
    let f = and_right _ _ e in
    let g = and_right _ _ f in
    record {
      least = least;
      most = most;
      known = known-passed p rs (and_left _ _ f);
      room = leb-true _ _ (and_left _ _ g);
      inside = ltb-true _ _ (and_right _ _ g);
    }

attends : (p : List ℕ) (v : Store) (burst : List ℕ) (h : Handler) → handler_sound p v burst h ≡ true → Attends p v burst h
unfolding handler_sound
attends p v burst Resting e = e
attends p v burst (Storing n c) e = attends_to p v c (carried burst n) e
attends p v burst Dropping e = may_drop_is p v (carried burst 1) (known-passed p (carried burst 1) (and_left _ _ e)) (and_right _ _ e)
attends p v burst (Replacing c) e = attends_to p v c (carried burst 1) e

-- ---- what step and post look at

pub look-passed : (p s : List ℕ) (d : Device) → look p s d ≡ Ok tt → Looked p s d
unfolding look device_sound
look-passed p s d e0 =
    let e1 = then_rest _ _ e0 in
    let e2 = then_rest _ _ e1 in
    let e3 = then_rest _ _ e2 in
    let contents = contents-passed p (then_first _ _ e0) in
    let on = must-passed _ _ (then_rest _ _ e3) in
    let sound = sym (pick_true _ _ on) ∙ must-passed _ _ (then_first _ _ e3) in
    let rest = and_right _ _ sound in
    record {
      passed = e0;
      contents = contents;
      shaped = store-passed p s contents (then_first _ _ e1);
      control = control-passed p (view s) (then_first _ _ e2);
      on = on;
      count_in = leb-true _ _ (and_left _ _ sound);
      place = stands p (view s) d.count d.place (and_left _ _ rest);
      handler = attends p (view s) d.burst d.handler (and_right _ _ rest);
    }

-- ---- a body at an instruction

pub body-passed : (p : List ℕ) (v : Store) (x : Place) (b : Body) (j : ℕ) (f : Effect) → body_sound p v x b j f ≡ Ok tt → BodyIs p v x b j f
unfolding body_sound
body-passed p v x b j f e0 =
    let e1 = then_rest _ _ e0 in
    let e2 = then_rest _ _ e1 in
    let e3 = then_rest _ _ e2 in
    let e4 = then_rest _ _ e3 in
    let last = must-passed _ _ (then_rest _ _ e4) in
    let there = and_left _ _ last in
    let code = sym (pick_true _ _ there) ∙ then_first _ _ e3 in
    record {
      head_record = then_first _ _ e0;
      rows_inside = then_first _ _ e1;
      row = row-passed p (body_number p b) (then_first _ _ e2);
      there = ltb-true _ _ there;
      rule = then_first _ _ code;
      named = then_rest _ _ code;
      open_number_sound = then_first _ _ e4;
      head_record_is = and_left _ _ (and_right _ _ last);
      fits = and_right _ _ (and_right _ _ last);
    }

-- all of it as a set of rules, for the function that makes the check
pub ruleset gives = (
  contents-passed,
  inside-passed,
  used_passed,
  rows-passed,
  check-passed,
  rule-passed,
  sizes-passed,
  store-passed,
  control-passed,
  boot-passed,
  look-passed,
  body-passed,
)
