-- `calls::start` meets its contract. Assumes nothing.
use mathlib.Core.Path.{refl}
use Rattle.model.specs.Device.{fresh}
use Rattle.sheet.proofs.calls.start.Goals as goal

pub returns : goal.returns
unfolding fresh
returns c = refl
