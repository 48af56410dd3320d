-- `step` meets its contract: the runtime's step, then the count of what it answered, which is the count of the definition's. Assumes nothing.
use mathlib.Core.Path.{◌∙◌}
use Rattle.device.specs.Result.{of_call}
use Rattle.host.proofs.step.Goals as goal
use Rattle.model.specs.Device.{step}
use Rattle.runtime.proofs.Counted.{counted_as_told}

pub returns : goal.returns
returns c =
    let a = c.args in
    let s = a.store.now in
    record {
      performs = c.step-r.ensures;
      totals = c.count.ensures
          ∙ counted_as_told s a.device.handler (step a.program.now s a.device) (of_call c.step-r.result c.step-r.new.store) a.totals.now c.step-r.ensures;
    }
