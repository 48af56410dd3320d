-- `control::record_rule` meets its contract: the record doesn't wait, or its event is known, or it isn't. Assumes nothing.
use mathlib.Core.Path.{sym, ◌∙◌}
use native.Mathlib.Omega.{arith}
use borrow.Author.Tests.{le-ltb, lt-ltb}
use Rattle.model.specs.Control.{record_rule}
use Rattle.model.specs.Store.{view}
use Rattle.model.proofs.RuleLaws.{obey_unasked, obey-kept, obey-broken}
use Rattle.control.proofs.record_rule.Goals as goal
use Rattle.control.proofs.record_rule.Goals.{else-record_waits-via-then-record_waits+else-event-program, else-record_waits-via-else-record_waits}

pub returns-then-event-program : goal.returns-then-event-program
unfolding record_rule
returns-then-event-program c =
    obey-broken (record_rule c.args.program.now (view c.args.store.now) c.args.slot)
    (sym (c.record_waits.ensures c.args.program.now) ∙ c.if-record_waits.true)
    (rw (sym c.event.ensures) (le-ltb _ _ c.if-event-program.true)) (omega arith)

pub returns : goal.returns
unfolding record_rule
returns c =
    let rule = record_rule c.args.program.now (view c.args.store.now) c.args.slot in
    elim c.else-record_waits.branch [
      | else-record_waits-via-then-record_waits+else-event-program w ↦
          sym (obey-kept rule (rw (sym w.event.ensures) (lt-ltb _ _ w.if-event-program.false)))
      | else-record_waits-via-else-record_waits w ↦
          sym (obey_unasked rule (sym (c.record_waits.ensures c.args.program.now) ∙ w.if-record_waits.false))
    ]
