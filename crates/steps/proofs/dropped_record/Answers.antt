-- `steps::dropped_record` meets its contract: event and data of the slot after tail. Assumes nothing.
use Rattle.model.proofs.RingLaws.{slot_after_le}
use Rattle.model.specs.Store.{slot}
use Rattle.model.specs.Device.{dropped_record}
use Rattle.steps.proofs.dropped_record.Goals as goal

pub event-requires : goal.event-requires
event-requires c = record { shaped = c.requires.shaped; slot_bound = rw c.slot_after-slot.ensures (slot_after_le _ _ c.requires.store_bound) }

pub datum-requires : goal.datum-requires
datum-requires c = record { shaped = c.requires.shaped; slot_bound = rw c.slot_after-slot.ensures (slot_after_le _ _ c.requires.store_bound) }

pub returns : goal.returns
unfolding dropped_record slot
returns c = simp (c.event.ensures, c.datum.ensures, c.slot_after-slot.ensures)
