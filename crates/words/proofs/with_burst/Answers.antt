-- `words::with_burst` meets its contract: word by word. Assumes nothing.
use Rattle.words.proofs.Parts.{spelt}
use Rattle.words.proofs.Words.{handled_is}
use Rattle.words.proofs.with_burst.Goals as goal

pub returns : goal.returns
unfolding spelt
returns c = handled_is _ _ _ _ c.handler_words-work.ensures
