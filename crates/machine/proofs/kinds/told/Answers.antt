-- `kinds::told` meets its contract: the array is the definition's list once its five words are spelt out. Assumes nothing.
use mathlib.Core.Path.{◌≡◌}
use lib.ListN.{length}
use Rattle.words.proofs.Parts.{spelt, spelt_all}
use borrow.Author.Rules.{rules}
use Rattle.machine.proofs.kinds.told.Goals as goal

pub returns : goal.returns
unfolding spelt
returns c =
    let five : length c.args.answer ≡ 5 = search (rules, c.well_formed) in
    rw (← spelt_all c.args.answer 5 five)
