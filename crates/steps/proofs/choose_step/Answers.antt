-- `steps::choose_step` meets its contract: the body that is next, and the record at head. Assumes nothing.
use mathlib.Core.Path.{sym, ap, ◌∙◌}
use Rattle.model.proofs.TestLaws.{pick_true, pick-false}
use Rattle.model.proofs.DeviceLaws.{judged-refused, judged-accepted}
use Rattle.model.specs.Device.{Outcome, choose_step, choosing, started, data_for, kind_of, with_place, judged}
use Rattle.model.specs.Store.{settled, stored_word, index}
use Rattle.device.specs.Result.{of_outcome}
use Rattle.steps.proofs.choose_step.Goals as goal

pub returns-then-not-event_next : goal.returns-then-not-event_next
unfolding choose_step choosing started data_for kind_of with_place judged settled stored_word index
returns-then-not-event_next c = rw (c.begin.ensures.0, c.begin.ensures.1) (ap (λ (o : Outcome). of_outcome c.args.store.now o) (sym (pick-false _ _ (sym c.event_next.ensures ∙ c.if-not-event_next.true))))

pub returns-in-Err : goal.returns-in-Err
unfolding choose_step choosing started data_for kind_of with_place judged settled stored_word index
returns-in-Err c = rw c.refused.ensures (ap (λ (o : Outcome). of_outcome c.args.store.now o) (sym (pick_true _ _ (sym c.event_next.ensures ∙ c.if-not-event_next.false) ∙ judged-refused _ _ (sym c.record_at_head.ensures ∙ c.in-Err.is))))

pub returns : goal.returns
unfolding choose_step choosing started data_for kind_of with_place judged settled stored_word index
returns c = rw (c.begin-2.ensures.0, c.begin-2.ensures.1, c.head_event-event.ensures, c.head_datum-datum.ensures) (ap (λ (o : Outcome). of_outcome c.args.store.now o) (sym (pick_true _ _ (sym c.event_next.ensures ∙ c.if-not-event_next.false) ∙ judged-accepted _ _ (sym c.record_at_head.ensures ∙ c.in_default.is))))
