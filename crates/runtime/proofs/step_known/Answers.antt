-- `step_known` meets its contract: the early checks, made or known to pass, then the step. Assumes nothing.
use Rattle.model.specs.Types.{Ok}
use mathlib.Core.Path.{◌≡◌, sym, ap, ◌∙◌}
use Rattle.device.specs.Result.{device_with, of_step, of_outcome}
use Rattle.device.specs.declared.StepResult.{StepResult}
use Rattle.model.proofs.DeviceLaws.{step_goes, step-refused}
use Rattle.model.proofs.Passed.{look-passed}
use Rattle.model.specs.Device.{Outcome}
use Rattle.model.specs.Store.{settled, stored_word}
use Rattle.runtime.proofs.step_known.Goals as goal
use Rattle.runtime.proofs.step_known.Goals.{then-not-known+in_default, else-not-known}
use Rattle.model.specs.Device.{look}

pub returns-in-Err : goal.returns-in-Err
unfolding settled stored_word
returns-in-Err c =
    let s = c.args.store.now in
    let p = c.args.program.now in
    let d = device_with c.args.core c.args.registers.now c.args.handler c.args.burst.now in
    record { store_after = ap (λ (x : StepResult). of_step x c.args.registers.now c.args.burst.now s) c.refused.ensures ∙ ap (λ (o : Outcome). of_outcome s o) (sym (step-refused p s d (sym c.look.ensures.value ∙ c.in-Err.is))); eight_after = c.requires.eight }

pub next_step-requires : goal.next_step-requires
next_step-requires c =
    let accepted : look c.args.program.now c.args.store.now (device_with c.args.core c.args.registers.now c.args.handler c.args.burst.now) ≡ (Ok tt) =
    elim c.if-not-known.branch [ then-not-known+in_default w ↦ sym w.look.ensures.value ∙ w.in_default.is | else-not-known w ↦ c.requires.known_to_pass w.if-not-known.false ] in
    record { looked = look-passed _ _ _ accepted; eight = c.requires.eight }

pub returns : goal.returns
returns c =
    let s = c.args.store.now in
    let p = c.args.program.now in
    let d = device_with c.args.core c.args.registers.now c.args.handler c.args.burst.now in
    let accepted : look p s d ≡ (Ok tt) =
    elim c.if-not-known.branch [ then-not-known+in_default w ↦ sym w.look.ensures.value ∙ w.in_default.is | else-not-known w ↦ c.requires.known_to_pass w.if-not-known.false ] in
    record {
      store_after = c.next_step.ensures.store_after ∙ ap (λ (o : Outcome). of_outcome s o) (sym (step_goes p s d accepted));
      eight_after = c.next_step.ensures.eight_after;
    }
