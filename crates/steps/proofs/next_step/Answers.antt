-- `steps::next_step` meets its contract, by the handler. Assumes nothing.
use mathlib.Core.List.{List}
use mathlib.Core.Path.{sym, ap, subst, ◌∙◌}
use Prim.Native.Nat.{ℕ}
use native.Mathlib.Omega.{arith}
use Rattle.device.specs.Result.{device_with, step_result, of_step, leaves, next_step_of}
use Rattle.device.specs.declared.CoreResult.{CoreResult}
use Rattle.device.specs.declared.StepResult.{StepResult}
use Rattle.model.proofs.BurstLaws.{no_burst_lem}
use Rattle.model.specs.Accepted.{Looked, Attends}
use Rattle.model.specs.Device.{next_step}
use Rattle.model.specs.Store.{view}
use Rattle.model.specs.declared.Handler.{Handler}
use Rattle.model.specs.declared.Handler.TheVariants.{Resting}
use Rattle.steps.proofs.Handling.{bounds}
use Rattle.steps.proofs.next_step.Goals as goal

abbrev rested-as : CoreResult → StepResult
rested-as x = step_result x.answer x.stored Resting x.core

pub place_step-requires : goal.place_step-requires
place_step-requires c =
    let s = c.args.store.now in
    let p = c.args.program.now in
    let b = c.args.burst.now in
    let told = c.in-Resting.is in
    let none = no_burst_lem b c.requires.eight (subst (Attends p (view s) b) told c.requires.looked.handler) in
    let rests = subst (λ (h : Handler). Looked p s (device_with c.args.core c.args.registers.now h b)) told c.requires.looked in
    subst (λ (ws : List ℕ). Looked p s (device_with c.args.core c.args.registers.now Resting ws)) none rests

pub overflow_add-later : goal.overflow_add-later
overflow_add-later c =
    let (fits, most, inside) = bounds _ _ _ _ _ _ _ (subst (Attends c.args.program.now (view c.args.store.now) c.args.burst.now) c.in-Storing.is c.requires.looked.handler) in
    record { fits = omega (arith, most, inside) }

pub handler_step-requires : goal.handler_step-requires
handler_step-requires c =
    let looked = c.requires.looked in
    let (fits, most, inside) = bounds _ _ _ _ _ _ _ (subst (Attends c.args.program.now (view c.args.store.now) c.args.burst.now) c.in-Storing.is looked.handler) in
    record { shaped = looked.shaped.shaped; store_bound = (looked.control.tail_in, fits); length_bound = (most, inside); eight = c.requires.eight }

pub drop_step-requires : goal.drop_step-requires
drop_step-requires c = record { contents = c.requires.looked.contents; shaped_for = c.requires.looked.shaped; store_bound = c.requires.looked.control.head_in }

pub replacing_step-requires : goal.replacing_step-requires
replacing_step-requires c =
    let looked = c.requires.looked in
    let (fits, most, inside) = bounds _ _ _ _ _ _ 1 (subst (Attends c.args.program.now (view c.args.store.now) c.args.burst.now) c.in-Replacing.is looked.handler) in
    record { shaped = looked.shaped.shaped; store_bound = (looked.control.tail_in, fits); made_bound = inside; eight = c.requires.eight }

pub returns-in-Resting : goal.returns-in-Resting
unfolding next_step
returns-in-Resting c =
    let s = c.args.store.now in
    let p = c.args.program.now in
    let r = c.args.registers.now in
    let b = c.args.burst.now in
    let told = c.in-Resting.is in
    let none = no_burst_lem b c.requires.eight (subst (Attends p (view s) b) told c.requires.looked.handler) in record {
      store_after = ap (λ (x : StepResult). of_step x c.place_step.new.registers b c.place_step.new.store) c.rested.ensures
          ∙ ap (λ (ws : List ℕ). of_step (rested-as c.place_step.result) c.place_step.new.registers ws c.place_step.new.store) none
          ∙ c.place_step.ensures
          ∙ ap (λ (ws : List ℕ). leaves (next_step_of p) s (device_with c.args.core r Resting ws)) (sym none)
          ∙ ap (λ (h : Handler). leaves (next_step_of p) s (device_with c.args.core r h b)) (sym told);
      eight_after = c.requires.eight;
    }

pub returns-in-Storing : goal.returns-in-Storing
unfolding next_step
returns-in-Storing c = record { store_after = c.handler_step.ensures.on_any c.args.registers.now _ ∙ ap (λ (h : Handler). leaves (next_step_of c.args.program.now) c.args.store.now (device_with c.args.core c.args.registers.now h c.args.burst.now)) (sym c.in-Storing.is); eight_after = c.handler_step.ensures.eight_after }

pub returns-in-Dropping : goal.returns-in-Dropping
unfolding next_step
returns-in-Dropping c = record { store_after = c.drop_step.ensures c.args.registers.now c.args.burst.now ∙ ap (λ (h : Handler). leaves (next_step_of c.args.program.now) c.args.store.now (device_with c.args.core c.args.registers.now h c.args.burst.now)) (sym c.in-Dropping.is); eight_after = c.requires.eight }

pub returns-in-Replacing : goal.returns-in-Replacing
unfolding next_step
returns-in-Replacing c = record { store_after = c.replacing_step.ensures.on_any c.args.registers.now _ ∙ ap (λ (h : Handler). leaves (next_step_of c.args.program.now) c.args.store.now (device_with c.args.core c.args.registers.now h c.args.burst.now)) (sym c.in-Replacing.is); eight_after = c.replacing_step.ensures.eight_after }
