-- `look::look` meets its contract: what is accepted has passed. Assumes nothing.
use Rattle.std.proofs.Common.{rules}
use Rattle.model.proofs.Passed.{look-passed}
use Rattle.model.proofs.TestLaws.{in_a_row}
use Rattle.model.specs.Device.{look}
use Rattle.model.specs.Test.{must, in_turn}
use Rattle.device.specs.Result.{device_with}
use Rattle.device.proofs.look.look.Goals as goal

pub returns-clause-given : goal.returns-clause-given
unfolding look must in_turn
returns-clause-given c = λ e. look-passed c.args.program.now c.args.store.now (device_with c.args.core c.args.registers.now c.args.handler c.args.burst.now) (search (rules, in_a_row))
