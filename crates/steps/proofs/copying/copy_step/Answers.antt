-- `copying::copy_step` meets its contract: a copy while pairs are left, then the last stores of the phase. Assumes nothing.
use mathlib.Core.Path.{sym, ap, ◌∙◌}
use native.Mathlib.Omega.{arith}
use Rattle.device.specs.Result.{device, of_outcome}
use Rattle.model.proofs.DeviceLaws.{task-last, event-last}
use Rattle.model.specs.Device.{Outcome}
use Rattle.model.specs.Store.{view}
use Rattle.steps.proofs.Cases.{copies_fit, task-left, event-left}
use Rattle.steps.proofs.copying.copy_step.Goals as goal

pub copy-requires : goal.copy-requires
copy-requires c =
    let h = c.requires.looked in
    record { contents = h.contents; shaped_for = h.shaped; pair_bound = (c.if-made-copies.true, copies_fit c.args.program.now c.args.store.now _ h c.args.made c.requires.committing.0 c.requires.committing.1) }

pub returns-then-made-copies : goal.returns-then-made-copies
returns-then-made-copies c = c.copy.ensures c.args.registers.now

pub task_last-requires : goal.task_last-requires
task_last-requires c =
    let h = c.requires.looked in
    let fit = copies_fit c.args.program.now c.args.store.now _ h c.args.made c.requires.committing.0 c.requires.committing.1 in
    let l = task-left c.args.program.now c.args.store.now _ h c.args.made c.requires.committing.0 c.requires.committing.1 c.if-store-eq1.true in
    record { control_words = omega (arith, h.shaped.shaped.length_is); last_bound = (omega (arith, c.if-made-copies.false), omega (arith, h.shaped.shaped.sizes.most_pairs)) }

pub returns-then-store-eq1 : goal.returns-then-store-eq1
returns-then-store-eq1 c =
    let s = c.args.store.now in
    c.task_last.ensures ∙ ap (λ (o : Outcome). of_outcome s o) (sym (task-last c.args.program.now (view s) (device c.args.core c.args.registers.now) c.args.made c.if-made-copies.false c.if-store-eq1.true))

pub event_last-requires : goal.event_last-requires
event_last-requires c =
    let h = c.requires.looked in
    let fit = copies_fit c.args.program.now c.args.store.now _ h c.args.made c.requires.committing.0 c.requires.committing.1 in
    let l = event-left c.args.program.now c.args.store.now _ h c.args.made c.requires.committing.0 c.requires.committing.1 c.if-store-eq1.false in
    record { control_words = omega (arith, h.shaped.shaped.length_is); last_bound = (omega (arith, c.if-made-copies.false), omega (arith, h.shaped.shaped.sizes.most_pairs)) }

pub returns : goal.returns
returns c =
    let s = c.args.store.now in
    c.event_last.ensures ∙ ap (λ (o : Outcome). of_outcome s o) (sym (event-last c.args.program.now (view s) (device c.args.core c.args.registers.now) c.args.made c.if-made-copies.false c.if-store-eq1.false))
