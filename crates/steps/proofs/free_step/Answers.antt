-- `steps::free_step` meets its contract, by the phase. Assumes nothing.
use mathlib.Core.Path.{sym, ap, ◌∙◌}
use Rattle.device.specs.Result.{device, of_outcome}
use Rattle.model.proofs.DeviceLaws.{free_chooses, free_copies}
use Rattle.model.specs.Device.{Outcome}
use Rattle.model.specs.Store.{view}
use Rattle.steps.proofs.free_step.Goals as goal

pub choose_step-requires : goal.choose_step-requires
choose_step-requires c = c.requires.looked

pub returns-then-store-eq0 : goal.returns-then-store-eq0
returns-then-store-eq0 c =
    let s = c.args.store.now in
    let p = c.args.program.now in
    let d = device c.args.core c.args.registers.now in
    c.choose_step.ensures ∙ ap (λ (o : Outcome). of_outcome s o) (sym (free_chooses p (view s) d c.args.made c.if-store-eq0.true))

pub copy_step-requires : goal.copy_step-requires
copy_step-requires c = record { looked = c.requires.looked; committing = (c.requires.free, c.if-store-eq0.false) }

pub returns : goal.returns
returns c =
    let s = c.args.store.now in
    let p = c.args.program.now in
    let d = device c.args.core c.args.registers.now in
    c.copy_step.ensures ∙ ap (λ (o : Outcome). of_outcome s o) (sym (free_copies p (view s) d c.args.made c.if-store-eq0.false))
