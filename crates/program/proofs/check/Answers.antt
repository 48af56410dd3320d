-- `check` meets its contract: an accepted check is one whose parts all accepted. Assumes nothing.
use Rattle.std.proofs.Common.{rules}
use Rattle.model.specs.Check.{check}
use Rattle.model.proofs.ProgramLaws.{check-passed}
use Rattle.model.proofs.TestLaws.{in_a_row}
use Rattle.program.proofs.check.Goals as goal

pub returns-clause-given : goal.returns-clause-given
unfolding check
returns-clause-given c = λ e. check-passed _ (search (rules, in_a_row))
