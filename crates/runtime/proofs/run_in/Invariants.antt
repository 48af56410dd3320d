-- `run_in` meets its contract. The loop's invariant: what is left of the run, from here, is the run; where the early checks are known
-- to pass, they do; before the first step, the step from here is the step, and after it, it is made. Assumes nothing.
use Rattle.model.specs.Types.{Ok}
use Rattle.model.specs.Types.{Option}
use Prim.Native.Nat.{ℕ, ℕ, ◌-◌, ◌≤◌}
use mathlib.Core.Bool.{true}
use mathlib.Core.List.{List}
use mathlib.Core.Path.{◌≡◌}
use lib.ListN.{length}
use Rattle.device.specs.Result.{Eight, Result, device_with, of_outcome}
use Rattle.model.specs.Calls.{run, run_from}
use Rattle.model.specs.Device.{look, step}
use Rattle.model.specs.declared.Answer.{Answer}
use Rattle.model.specs.declared.Device.{Device}
use Rattle.runtime.proofs.run_in.Given as goal

abbrev pub leaving : Answer → Option ℕ → Device → List ℕ → Result
leaving a w d s = record { answer = a; stored = w; device = d; store = s }

abbrev pub invariant-loop-steps : goal.invariant-loop-steps
invariant-loop-steps l =
    let d = device_with l.core l.registers l.handler l.burst in
    let first = device_with l.initial.core l.initial.registers l.initial.handler l.initial.burst in
    record {
      in_range : l.steps ≤ l.budget;
      length_stays : length l.store ≡ length l.initial.store;
      rest : run_from l.program (l.budget - l.steps) l.steps l.store d l.totals ≡ run l.program l.budget l.initial.store first l.initial.totals;
      passes : l.known ≡ true → look l.program l.store d ≡ Ok tt;
      at_first : l.steps ≡ 0 → of_outcome l.store (step l.program l.store d) ≡ of_outcome l.initial.store (step l.program l.initial.store first);
      behind_first : l.steps ≡ 1 → leaving l.last l.stored d l.store ≡ of_outcome l.initial.store (step l.program l.initial.store first);
      eight : Eight l.burst;
    }
