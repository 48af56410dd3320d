-- `acting::act` meets its contract, by what the instruction does. Assumes nothing.
use Rattle.model.specs.Device.{act}
use Rattle.body.proofs.acting.act.Goals as goal

pub returns-in-Save : goal.returns-in-Save
unfolding act
returns-in-Save c = rw c.in-Save.is (c.save.ensures c.args.registers.now)

pub returns-in-EndEvent : goal.returns-in-EndEvent
returns-in-EndEvent c = rw c.in-EndEvent.is (c.end_event.ensures c.args.program.now)
