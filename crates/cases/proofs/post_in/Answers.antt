-- `post_in` meets its contract, by those of the calls. Assumes nothing.
use mathlib.Core.Path.{ap, ◌∙◌}
use Rattle.cases.proofs.Shown.{device_of, store_of, from_none, post_seen}
use Rattle.device.specs.Result.{Result}
use Rattle.model.specs.Calls.{RunOutcome}
use Rattle.model.specs.Device.{fresh}
use Rattle.cases.proofs.post_in.Goals as goal

pub shape_of-store : goal.shape_of-store
shape_of-store c = c.run-ran.auto.store ∙ c.format.auto.store

pub returns : goal.returns
unfolding fresh
returns c =
    let a = c.args in
    let p = a.program.now in
    let ran = from_none p a.steps _ _ c.run-ran.ensures c.none.ensures in
    ap (λ (x : Result). x.answer) c.post-further.ensures
    ∙ post_seen p _ c.format.ensures.store_after (ap device_of c.boot-on.ensures) a.steps (ap device_of c.post-posted.ensures)
    (ap store_of ran) (ap (λ (x : RunOutcome). x.device) ran)
