-- `steps::drop_step` meets its contract: the record at head is checked, and head stored. Assumes nothing.
use mathlib.Core.Path.{sym, ap, ◌∙◌}
use Rattle.device.specs.Result.{of_outcome}
use Rattle.model.proofs.DeviceLaws.{judged-accepted}
use Rattle.model.specs.Device.{Outcome, drop_step, with_handler}
use Rattle.model.specs.Store.{settled, stored_word, index}
use Rattle.steps.proofs.drop_step.Goals as goal

pub returns : goal.returns
unfolding drop_step with_handler settled stored_word index
returns c = λ r b. rw (c.handler_result-2.ensures, c.slot_after.ensures) (ap (λ (o : Outcome). of_outcome c.args.store.now o) (sym (judged-accepted _ _ (sym c.record_at_head.ensures ∙ c.in_default.is))))
