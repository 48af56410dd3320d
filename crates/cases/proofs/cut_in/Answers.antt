-- `cut_in` meets its contract, by those of the calls. Assumes nothing.
use mathlib.Core.List.{[]}
use mathlib.Core.Path.{ap, ◌∙◌}
use Rattle.cases.proofs.Shown.{device_of, store_of, from_none, cut_seen}
use Rattle.device.specs.Result.{Result}
use Rattle.model.specs.Device.{fresh, boot, cut}
use Rattle.cases.proofs.cut_in.Goals as goal

pub shape_of-store : goal.shape_of-store
shape_of-store c = c.run-2.auto.store ∙ c.run.auto.store ∙ c.format.auto.store

pub returns : goal.returns
unfolding fresh cut
returns c =
    let a = c.args in
    let p = a.program.now in
    let again = ap device_of c.boot-again.ensures ∙ ap (λ (x : Result). (boot p c.run.new.store x.device).device) (c.cut-off.ensures []) in
    cut_seen p _ c.format.ensures.store_after (ap device_of c.boot-on.ensures) a.steps a.recovery
    (ap store_of (from_none p a.steps _ _ c.run.ensures c.none.ensures)) again
    (ap store_of (from_none p a.recovery _ _ c.run-2.ensures c.none-2.ensures))
