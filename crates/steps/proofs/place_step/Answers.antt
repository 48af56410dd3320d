-- `steps::place_step` meets its contract, by the place. Assumes nothing.
use mathlib.Core.Path.{sym, ap, ◌∙◌}
use Rattle.device.specs.Result.{device, of_outcome}
use Rattle.model.specs.Device.{place_step}
use Rattle.model.specs.Store.{view}
use Rattle.model.specs.declared.Place.{Place}
use Rattle.steps.proofs.place_step.Goals as goal

pub body_step-requires : goal.body_step-requires
body_step-requires c = record { looked = c.requires; of_body = c.in_default.not-Free }

pub returns-in_default : goal.returns-in_default
returns-in_default c = c.body_step.ensures

pub free_step-requires : goal.free_step-requires
free_step-requires c = record { looked = c.requires; free = c.in-Free.is }

pub returns-in-Free : goal.returns-in-Free
returns-in-Free c =
    let s = c.args.store.now in
    let p = c.args.program.now in
    let d = device c.args.core c.args.registers.now in
    c.free_step.ensures ∙ ap (λ (x : Place). of_outcome s (place_step p (view s) d x)) (sym c.in-Free.is)
