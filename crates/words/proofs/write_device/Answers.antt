-- `words::write_device` meets its contract: the array is the definition's list once the words of the place and the handler are spelt out. Assumes nothing.
use Rattle.std.proofs.Common.{◌≡◌, sym, ◌∙◌, rules}
use Rattle.words.proofs.Parts.{spelt}
use Rattle.words.proofs.Words.{written_with, written_all}
use Rattle.words.specs.Words.{flag}
use Rattle.words.proofs.write_device.Goals as goal
use Rattle.words.proofs.write_device.Goals.{After-from}

on_is : (c : After-from) → c.from.result ≡ flag c.args.device.on
unfolding flag
on_is c = search rules

pub returns : goal.returns
unfolding spelt
returns c =
    (λ i.
    written_with c.args.device (on_is c.before i) (c.place_words-place_words.ensures i) (c.handler_words-handler_words.ensures i))
    ∙ sym (written_all c.args.device)
