-- `calls::recover` meets its contract. Assumes nothing.
use Prim.Native.Nat.{ℕ, suc, ◌+◌, ◌-◌}
use mathlib.Core.Path.{◌≡◌, sym, ap, ◌∙◌}
use native.Mathlib.Omega.{arith}
use Rattle.device.specs.Result.{Result}
use Rattle.model.proofs.CallLaws.{booted}
use Rattle.model.specs.Calls.{Now, after_calls}
use Rattle.model.specs.Calls.{steps as steps_of}
use Rattle.model.specs.Device.{fresh, off, boot}
use Rattle.model.specs.declared.Device.{Device}
use Rattle.sheet.proofs.ReachedLaws.{steps_all, steps-none, steps-left}
use Rattle.sheet.proofs.calls.recover.Goals as goal

pub loop-made-init : goal.loop-made-init
loop-made-init c = steps_all _ _ _ _

pub loop-made-preserved : goal.loop-made-preserved
loop-made-preserved c =
    let left : c.recovery_steps-steps.result - c.loop-made.made ≡ suc (c.recovery_steps-steps.result - (c.loop-made.made + 1)) = omega arith in
    steps-left c.args.program.now c.loop-made.store c.loop-made.device _ _ left c.step.ensures ∙ c.loop-made.invariant

pub returns : goal.returns
unfolding fresh
returns c =
    let p = c.args.program.now in
    let s = c.args.store.now in
    let none_left : c.recovery_steps-steps.result - c.loop-made.made ≡ 0 = omega arith in
    ap (λ (x : Now). x.store) (steps-none p _ _ _ none_left ∙ c.loop-made.invariant)
    ∙ ap (λ (d : Device). (after_calls p s d (steps_of c.recovery_steps-steps.result)).store) (ap (λ (x : Result). x.device) c.boot.ensures)
    ∙ ap (λ (n : ℕ). (after_calls p s (boot p s off).device (steps_of n)).store) c.recovery_steps-steps.ensures
    ∙ sym (ap (λ (x : Now). x.store) (booted p s off _))
