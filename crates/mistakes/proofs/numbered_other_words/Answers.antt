-- `numbered_other_words` meets its contract: behind the table's last row there are no words. Assumes nothing.
use native.Mathlib.Omega.{arith}
use Rattle.mistakes.proofs.ToldLaws.{no_words}
use Rattle.mistakes.proofs.numbered_other_words.Goals as goal

pub returns-in_default-clause-value : goal.returns-in_default-clause-value
returns-in_default-clause-value c = no_words (omega arith)
