-- `run_in` meets its contract. The loop's invariant: what is left of the run, from here, is the run; where the early checks are known
-- to pass, they do; before the first step, the step from here is the step, and after it, it is made. Assumes nothing.
use Rattle.model.specs.Types.{Ok, Err}
use Prim.Native.Nat.{ℕ, suc, ◌+◌, ◌-◌}
use mathlib.Core.Path.{◌≡◌, refl, sym, ap, ◌∙◌}
use native.Mathlib.Omega.{arith}
use lib.ListN.{length}
use Rattle.device.specs.Result.{Result, device_with}
use Rattle.model.proofs.Words.{settled-length}
use Rattle.model.specs.Calls.{run, run_from}
use Rattle.model.specs.Device.{look, step}
use Rattle.model.specs.declared.Totals.{Totals}
use Rattle.runtime.proofs.Runs.{unrefused, control-there, refusal_of, ended, run_spent, run_stops, run_goes}
use Rattle.model.proofs.LookStays.{look_stays}
use Rattle.model.specs.Claims.{sound_after}
use Rattle.totals.specs.Counted.{counted_from}
use Rattle.runtime.proofs.run_in.Goals as goal

pub loop-steps-init : goal.loop-steps-init
unfolding run
loop-steps-init c =
    let a = c.args in
    let e : a.budget - 0 ≡ a.budget = omega arith in
    record {
      in_range = omega arith;
      length_stays = refl;
      rest = ap (λ (k : ℕ). run_from a.program.now k 0 a.store.now (device_with a.core a.registers.now a.handler a.burst.now) a.totals) e;
      passes = c.requires.looked_to_pass;
      at_first = λ z. refl;
      behind_first = λ z. absurd (omega arith);
      eight = c.requires.eight;
    }

pub step_known-step-requires : goal.step_known-step-requires
step_known-step-requires c = record { eight = c.loop-steps.invariant.eight; known_to_pass = c.loop-steps.invariant.passes }

pub shape_of-store-in-Err : goal.shape_of-store-in-Err
shape_of-store-in-Err c = ap (λ (x : Result). length x.store) c.step_known-step.ensures.store_after ∙ settled-length c.loop-steps.store _ ∙ c.loop-steps.invariant.length_stays

pub returns-in-Err : goal.returns-in-Err
returns-in-Err c =
    let p = c.args.program.now in
    let s = c.loop-steps.store in
    let d = device_with c.loop-steps.core c.loop-steps.registers c.loop-steps.handler c.loop-steps.burst in
    let n = c.loop-steps.steps in
    let t = c.loop-steps.totals in
    let k = c.args.budget - n in
    let j = c.args.budget - (n + 1) in
    let left : k ≡ suc j = omega (arith, c.loop-steps-test.true) in
    let q = c.step_known-step.ensures.store_after in
    record {
      run = (ap (λ (x : Result). ended n (Err c.in-Err.why) x.store x.device t) q
          ∙ sym (run_stops p k j n s d t left (ap (λ (x : Result). refusal_of x.answer) (sym q) ∙ sym c.refusal.ensures ∙ c.in-Err.is))
          ∙ c.loop-steps.invariant.rest);
      single = λ one. (q ∙ c.loop-steps.invariant.at_first (omega (arith, one, c.loop-steps-test.true)));
    }

pub sound_after-known-requires : goal.sound_after-known-requires
sound_after-known-requires c =
    let p = c.args.program.now in
    let s = c.loop-steps.store in
    let d = device_with c.loop-steps.core c.loop-steps.registers c.loop-steps.handler c.loop-steps.burst in
    let q = c.step_known-step.ensures.store_after in
    let there = control-there p s d (ap (λ (x : Result). refusal_of x.answer) (sym q) ∙ sym c.refusal.ensures ∙ c.in_default.is) in
    let same : length c.step_known-step.new.store ≡ length s = ap (λ (x : Result). length x.store) q ∙ settled-length s _ in
    omega (arith, there, same)

pub loop-steps-preserved : goal.loop-steps-preserved
loop-steps-preserved c =
    let p = c.args.program.now in
    let s = c.loop-steps.store in
    let d = device_with c.loop-steps.core c.loop-steps.registers c.loop-steps.handler c.loop-steps.burst in
    let n = c.loop-steps.steps in
    let t = c.loop-steps.totals in
    let k = c.args.budget - n in
    let j = c.args.budget - (n + 1) in
    let left : k ≡ suc j = omega (arith, c.loop-steps-test.true) in
    let q = c.step_known-step.ensures.store_after in
    let passes = ap (λ (x : Result). refusal_of x.answer) (sym q) ∙ sym c.refusal.ensures ∙ c.in_default.is in
    record {
      in_range = omega (arith, c.loop-steps-test.true);
      length_stays = ap (λ (x : Result). length x.store) q ∙ settled-length s _ ∙ c.loop-steps.invariant.length_stays;
      rest = ap (λ (x : Totals). run_from p j (n + 1) c.step_known-step.new.store (device_with c.step_known-step.result.core c.step_known-step.new.registers c.step_known-step.result.handler c.step_known-step.new.burst) x) c.counted-totals.ensures
          ∙ ap (λ (x : Result). run_from p j (n + 1) x.store x.device (counted_from t c.loop-steps.handler x.answer x.stored)) q
          ∙ sym (run_goes p k j n s d t left passes)
          ∙ c.loop-steps.invariant.rest;
      passes = λ known.
          ap (λ (x : Result). look p x.store x.device) q
          ∙ look_stays p s d (unrefused (step p s d).answer passes) (ap (λ (x : Result). sound_after x.stored x.answer x.store) (sym q) ∙ sym c.sound_after-known.ensures ∙ known);
      at_first = λ zero. absurd (omega (arith, zero));
      behind_first = λ one. q ∙ c.loop-steps.invariant.at_first (omega (arith, one));
      eight = c.step_known-step.ensures.eight_after;
    }

pub shape_of-store : goal.shape_of-store
shape_of-store c = c.loop-steps.invariant.length_stays

pub returns : goal.returns
returns c =
    let p = c.args.program.now in
    let n = c.loop-steps.steps in
    let d = device_with c.loop-steps.core c.loop-steps.registers c.loop-steps.handler c.loop-steps.burst in
    let e : 0 ≡ c.args.budget - n = omega (arith, c.loop-steps-test.false) in
    let all : n ≡ c.args.budget = omega (arith, c.loop-steps-test.false, c.loop-steps.invariant.in_range) in
    record {
      run =
          ap (λ (m : ℕ). ended m (Ok tt) c.loop-steps.store d c.loop-steps.totals) (sym all)
          ∙ (sym (run_spent p n c.loop-steps.store d c.loop-steps.totals) ∙ ap (λ (k : ℕ). run_from p k n c.loop-steps.store d c.loop-steps.totals) e ∙ c.loop-steps.invariant.rest);
      single = λ one. (c.loop-steps.invariant.behind_first (omega (arith, one, c.loop-steps-test.false, c.loop-steps.invariant.in_range)));
    }
