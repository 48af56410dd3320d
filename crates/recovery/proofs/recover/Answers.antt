-- `recover` meets its contract: the boot, and the steps behind it. Assumes nothing.
use Prim.Native.Nat.{ℕ}
use mathlib.Core.Path.{sym, ap, ◌∙◌}
use Rattle.model.specs.Calls.{recovery}
use Rattle.model.specs.Device.{fresh}
use Rattle.recovery.proofs.RecoveryLaws.{recovery_stops, recovery_goes, refused-on}
use Rattle.recovery.proofs.recover.Goals as goal

pub returns-in_err-refusal : goal.returns-in_err-refusal
unfolding fresh
returns-in_err-refusal c = refused-on _ _ _ c.from_residual.ensures.1 ∙ (sym (recovery_stops _ _ _ c.boot-booted.ensures (sym c.refusal.ensures ∙ c.in_err-refusal.was)))

pub returns : goal.returns
unfolding fresh
returns c =
    let p = c.args.program.now in
    let s = c.args.store.now in
    c.finish.ensures
    ∙ sym (recovery_goes _ _ _ c.boot-booted.ensures (sym c.refusal.ensures ∙ c.in_ok-refusal.was))
    ∙ ap (λ (n : ℕ). recovery p n s) c.steps-allowed.ensures
