-- `step` meets its contract: a run with a budget of 1, between the device taken apart and put together again. Assumes nothing.
use mathlib.Core.Path.{refl, sym, ap, ◌∙◌}
use Rattle.device.specs.Result.{device_with, of_outcome}
use Rattle.device.specs.declared.Core.{Core}
use Rattle.model.specs.Device.{step}
use Rattle.runtime.proofs.Runs.{accepted}
use borrow.Author.Rules.{rules}
use Rattle.runtime.proofs.step.Goals as goal

pub run_in-steps-requires : goal.run_in-steps-requires
run_in-steps-requires c = record { eight = search rules; looked_to_pass = λ known. sym c.look-found.ensures.value ∙ accepted _ (sym c.is_ok.ensures.value ∙ known) }

pub returns : goal.returns
unfolding step
returns c =
    let a = c.args in
    c.packed.ensures _
    ∙ c.run_in-steps.ensures.single refl
    ∙ ap (λ (x : Core). of_outcome a.store.now (step a.program.now a.store.now (device_with x a.device.registers a.device.handler a.device.burst))) c.core_of-core.ensures
