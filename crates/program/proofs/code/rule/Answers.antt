-- `code::rule` meets its contract: an instruction that is accepted is a legal one. Assumes nothing.
use Rattle.std.proofs.Common.{rules}
use Rattle.model.specs.Check.{instruction_rule}
use Rattle.model.specs.Test.{must, in_turn}
use Rattle.model.proofs.Passed.{rule-passed}
use Rattle.program.proofs.code.rule.Goals as goal

pub returns-clause-given : goal.returns-clause-given
unfolding instruction_rule must in_turn
returns-clause-given c = λ e. rule-passed _ _ _ c.requires.place (search rules)
