-- `runtime_run` meets its contract, by whether the device words are those of a device state. Assumes nothing.
use mathlib.Core.Path.{refl, ap, ◌∙◌}
use Rattle.exports.proofs.OnDevice.{state-read, none_read}
use Rattle.exports.proofs.Told.{told-run}
use Rattle.model.specs.Calls.{run}
use Rattle.exports.proofs.runtime_run.Goals as goal

pub returns-in_default : goal.returns-in_default
returns-in_default c = none_read c.args.device.now _ _ c.in_default.ensures (refl, c.write_unknown.ensures, (refl, refl, refl))

pub returns : goal.returns
returns c =
    let a = c.args in
    let d = c.in-Some.state in
    let ran = c.run-result in
    state-read a.device.now _ _ c.in-Some.ensures
    (told-run _ ran.result
    (ran.ensures ∙ ap (run a.program.now a.budget a.store.now d) c.totals_of.ensures)
    c.write_ended.ensures c.write_device.ensures c.write_totals.ensures)
