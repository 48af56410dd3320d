-- `look::place_sound` meets its contract: how many stores a commit has fits a word. Assumes nothing.
use native.Mathlib.Omega.{arith}
use Rattle.model.proofs.DeviceLaws.{most-last}
use Rattle.model.specs.Store.{view}
use Rattle.device.proofs.look.place_sound.Goals as goal

pub overflow_add-result : goal.overflow_add-result
overflow_add-result c = record { fits = omega (arith, c.requires.controlled.count_in c.if-store-eq0.false, c.last_stores.ensures, most-last (view c.args.store.now)) }
