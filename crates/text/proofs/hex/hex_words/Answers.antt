-- `search` joins what is put, where the check's own `grind` looks at its parts.
use Rattle.std.proofs.Common.{rules}
use Rattle.text.proofs.TextLaws.{by_word}
use Rattle.text.specs.Text.{hex_word}
use Rattle.text.proofs.hex.hex_words.Goals as goal

pub loop-word-init : goal.loop-word-init
loop-word-init c = search (rules, by_word)

pub loop-word-preserved : goal.loop-word-preserved
unfolding hex_word
loop-word-preserved c = search (rules, by_word)
