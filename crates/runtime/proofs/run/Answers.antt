-- `run` meets its contract: its steps, between the device taken apart and put together again. Assumes nothing.
use mathlib.Core.Path.{sym, ap, ◌∙◌}
use Rattle.device.specs.Result.{device_with}
use Rattle.device.specs.declared.Core.{Core}
use Rattle.model.specs.Calls.{run}
use Rattle.model.specs.declared.Device.{Device}
use Rattle.runtime.proofs.Runs.{accepted, ended}
use borrow.Author.Rules.{rules}
use Rattle.runtime.proofs.run.Goals as goal

pub run_in-steps-requires : goal.run_in-steps-requires
run_in-steps-requires c = record { eight = search rules; looked_to_pass = λ known. sym c.look-found.ensures.value ∙ accepted _ (sym c.is_ok.ensures.value ∙ known) }

pub returns : goal.returns
returns c =
    let a = c.args in
    let r = c.run_in-steps.result in
    ap (λ (d : Device). ended r.steps r.ended c.run_in-steps.new.store d r.totals) c.whole.ensures
    ∙ c.run_in-steps.ensures.run
    ∙ ap (λ (x : Core). run a.program.now a.budget a.store.now (device_with x a.device.registers a.device.handler a.device.burst) a.totals) c.core_of-core.ensures
