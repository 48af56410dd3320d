-- `runtime_step` meets its contract, by whether the device words are those of a device state. Assumes nothing.
use mathlib.Core.Path.{refl, ap, ◌∙◌}
use Rattle.exports.proofs.OnDevice.{state-read, none_read}
use Rattle.exports.proofs.Told.{told}
use Rattle.exports.specs.Exported.{totals_of, totals_words}
use Rattle.model.specs.Calls.{Step}
use Rattle.model.specs.declared.Totals.{Totals}
use Rattle.runtime.proofs.Counted.{counted_as_told}
use Rattle.totals.specs.Counted.{counted_from}
use Rattle.exports.proofs.runtime_step.Goals as goal

pub returns-in_default : goal.returns-in_default
returns-in_default c = none_read c.args.device.now _ _ c.in_default.ensures (c.write_unknown_step.ensures, (refl, refl, refl))

pub returns : goal.returns
returns c =
    let r = c.step-result.result in
    let t = totals_of c.args.totals.now in
    state-read c.args.device.now _ _ c.in-Some.ensures (
      told Step _ _ r c.step-result.ensures c.write_step.ensures c.write_device.ensures,
      c.write_totals.ensures
          ∙ ap totals_words
          (c.counted-counted.ensures
          ∙ ap (λ (x : Totals). counted_from x c.in-Some.state.handler r.answer r.stored) c.totals_of.ensures
          ∙ counted_as_told _ _ _ _ t c.step-result.ensures),
    )
