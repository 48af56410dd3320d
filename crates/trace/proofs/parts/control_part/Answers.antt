-- `search` joins what is put, where the check's own `grind` looks at its parts.
use Rattle.std.proofs.Common.{rules}
use Rattle.model.specs.Test.{pick}
use Rattle.text.proofs.TextLaws.{puts_then}
use Rattle.trace.specs.Trace.{control_part}
use Rattle.trace.proofs.parts.control_part.Goals as goal

pub returns-then-tabs-clause-puts : goal.returns-then-tabs-clause-puts
unfolding control_part pick
returns-then-tabs-clause-puts c = rw c.if-tabs.true (search (rules, puts_then))

pub returns-clause-puts : goal.returns-clause-puts
unfolding control_part pick
returns-clause-puts c = rw c.if-tabs.false (search (rules, puts_then))
