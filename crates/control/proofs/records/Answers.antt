-- `control::records` meets its contract: the first rule that isn't obeyed answers. Assumes nothing.
use Rattle.std.proofs.Common.{rules, ◌≡◌, ◌∙◌}
use Rattle.model.specs.Control.{record_rule}
use Rattle.model.specs.Store.{view}
use Rattle.control.proofs.Groups.{rules_stop}
use Rattle.control.proofs.records.Goals as goal

pub returns-in_err-record_rule : goal.returns-in_err-record_rule
returns-in_err-record_rule c =
    let same : c.from_residual.result ≡ c.record_rule.result = search rules in
    rules_stop (record_rule c.args.program.now (view c.args.store.now)) _ c.loop-slot.slot (search rules) c.loop-slot.invariant.obeyed
    (same ∙ c.record_rule.ensures) (same ∙ c.in_err-record_rule.was)
