-- What a run leaves, from the code's result, as the value that is defined for it; what it promises is that the two are equal. Assumes
-- nothing.
use Rattle.model.specs.Types.{Option, Checked}
use Rattle.std.specs.Prelude.{ℕ, List, ◌≡◌}
use Rattle.device.specs.Result.{Result, device_with, of_outcome}
use Rattle.device.specs.declared.Core.{Core}
use Rattle.model.specs.Calls.{RunOutcome as Defined, run}
use Rattle.model.specs.Device.{step}
use Rattle.model.specs.declared.Answer.{Answer}
use Rattle.model.specs.declared.Device.{Device}
use Rattle.model.specs.declared.Handler.{Handler}
use Rattle.model.specs.declared.Totals.{Totals}
use Rattle.runtime.specs.declared.CoreRunResult.{CoreRunResult}
use Rattle.runtime.specs.declared.RunResult.{RunResult}

abbrev pub core_run_result : Answer → Option ℕ → ℕ → Checked → Handler → Core → Totals → CoreRunResult
core_run_result a w n e h c t = record { last = a; stored = w; steps = n; ended = e; handler = h; core = c; totals = t }

-- with registers r, a burst b and the words s
abbrev pub of_core_run : CoreRunResult → List ℕ → List ℕ → List ℕ → Defined
of_core_run x r b s = record { steps = x.steps; ended = x.ended; store = s; device = device_with x.core r x.handler b; totals = x.totals }

-- the answer of its last step, refused or not, and the word that this step stored, with the same
abbrev pub of_last : CoreRunResult → List ℕ → List ℕ → List ℕ → Result
of_last x r b s = record { answer = x.last; stored = x.stored; device = device_with x.core r x.handler b; store = s }

-- Steps up to a budget of program p, on the words s, device d and totals t, left x with registers r, burst b and the words z. What the last one
-- answered is told of a single step alone.
pub record CoreRuns (p : List ℕ) (budget : ℕ) (s : List ℕ) (d : Device) (t : Totals) (x : CoreRunResult) (r b z : List ℕ) : Type 0 where
  pub run : of_core_run x r b z ≡ run p budget s d t
  pub single : budget ≡ 1 → of_last x r b z ≡ of_outcome s (step p s d)

-- ---- What a host is promised

-- with the words s
abbrev pub of_run : RunResult → List ℕ → Defined
of_run x s = record { steps = x.steps; ended = x.ended; store = s; device = x.device; totals = x.totals }

-- A run of program p up to budget b, on the words s, device d and totals t, left x and the words z.
abbrev pub RunPerforms : List ℕ → ℕ → List ℕ → Device → Totals → RunResult → List ℕ → Type 0
RunPerforms p b s d t x z = of_run x z ≡ run p b s d t
