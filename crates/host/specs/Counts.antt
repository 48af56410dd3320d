-- Document 01: "the contract equates the answer, the store, the device state and the totals after the call with defined ones", where
-- the totals "are one record that the host lends and a step updates". What a step promises without totals stands in `StepPerforms`; here
-- the lent totals join. Assumes nothing.
use Rattle.std.specs.Prelude.{ℕ, List, ◌≡◌}
use Rattle.device.specs.Result.{StepPerforms}
use Rattle.device.specs.declared.CallResult.{CallResult}
use Rattle.model.specs.Calls.{counted}
use Rattle.model.specs.Device.{step}
use Rattle.model.specs.declared.Device.{Device}
use Rattle.model.specs.declared.Totals.{Totals}

-- A step of program p on the words s, device d and totals t left r, the words z and the totals u.
pub record StepCounts (p s : List ℕ) (d : Device) (t : Totals) (r : CallResult) (z : List ℕ) (u : Totals) : Type 0 where
  pub performs : StepPerforms p s d r z
  pub totals : u ≡ counted t d.handler (step p s d)
