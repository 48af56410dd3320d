-- `runtime_boot` meets its contract, by whether the device words are those of a device state. Assumes nothing.
use mathlib.Core.Path.{refl}
use Rattle.exports.proofs.OnDevice.{state-read, none_read}
use Rattle.exports.proofs.Told.{told}
use Rattle.model.specs.Calls.{Boot}
use Rattle.exports.proofs.runtime_boot.Goals as goal

pub returns-in_default : goal.returns-in_default
returns-in_default c = none_read c.args.device.now _ _ c.in_default.ensures (c.write_unknown.ensures, refl)

pub returns : goal.returns
returns c =
    state-read c.args.device.now _ _ c.in-Some.ensures
    (told Boot _ _ c.boot.result c.boot.ensures c.tell.ensures.0 c.tell.ensures.1)
