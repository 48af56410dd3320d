-- `search` joins what is put, where the check's own `grind` looks at its parts.
use Rattle.std.proofs.Common.{rules}
use Rattle.text.proofs.TextLaws.{puts_then}
use Rattle.trace.specs.Trace.{control_columns}
use Rattle.trace.proofs.parts.control_columns.Goals as goal

pub returns-clause-puts : goal.returns-clause-puts
unfolding control_columns
returns-clause-puts c = search (rules, puts_then)
