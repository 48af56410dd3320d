-- `mistakes::own_mistake` meets its contract: what is wrong in the line as it was read, and else in its statement. Assumes nothing.
use Rattle.assembly.proofs.MistakeLaws.{found_nothing}
use Rattle.assembly.specs.Mistakes.{own_mistake}
use Rattle.assembly.proofs.mistakes.own_mistake.Goals as goal

pub returns-clause-number : goal.returns-clause-number
unfolding own_mistake
returns-clause-number c = found_nothing _ _ _ _ c.reading_mistake.ensures.number c.in_ok-reading_mistake.was c.statement_mistake.ensures.number
