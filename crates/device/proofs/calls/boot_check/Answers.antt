-- `calls::boot_check` meets its contract: what is accepted has passed. Assumes nothing.
use Rattle.std.proofs.Common.{rules}
use Rattle.model.proofs.Passed.{boot-passed}
use Rattle.model.proofs.TestLaws.{in_a_row}
use Rattle.model.specs.Device.{boot_check}
use Rattle.model.specs.Test.{must, in_turn}
use Rattle.device.proofs.calls.boot_check.Goals as goal

pub returns-clause-given : goal.returns-clause-given
unfolding boot_check must in_turn
returns-clause-given c = λ e. boot-passed _ _ c.args.device (search (rules, in_a_row))
