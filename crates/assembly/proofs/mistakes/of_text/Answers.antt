-- `mistakes::of_text` meets its contract. Assumes nothing.
use Rattle.assembly.proofs.MistakeLaws.{at_none}
use Rattle.assembly.specs.Mistakes.{of_text}
use Rattle.assembly.proofs.mistakes.of_text.Goals as goal

pub returns-in-Ok-clause-numbers : goal.returns-in-Ok-clause-numbers
unfolding of_text
returns-in-Ok-clause-numbers c = at_none c.text_mistake.result _ c.text_mistake.ensures.number _ _ c.in-Ok.is
