-- `steps::replacing_step` meets its contract: it is a handler's step, and what was dropped stands in the slot after tail. Assumes nothing.
use Rattle.model.specs.declared.Record.{Record}
use Rattle.model.specs.Types.{Option}
use mathlib.Core.Path.{ap, ◌∙◌}
use Prim.Native.Nat.{◌+◌}
use Rattle.device.specs.Result.{device_with, leaves}
use Rattle.model.specs.Device.{handler_step}
use Rattle.model.specs.declared.Handler.TheVariants.{Replacing}
use Rattle.steps.proofs.replacing_step.Goals as goal

pub returns : goal.returns
returns c = record { on_any = λ r h. c.handler_step.ensures.on_any r h ∙ ap (λ (x : Option Record). leaves (λ v d. handler_step v d 1 c.args.made (Replacing (c.args.made + 1)) x) c.args.store.now (device_with c.args.core r h c.args.burst.now)) c.dropped_record-dropped.ensures; eight_after = c.handler_step.ensures.eight_after }
