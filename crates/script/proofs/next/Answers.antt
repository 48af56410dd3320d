-- `next` meets its contract. Assumes nothing.
use mathlib.Core.Path.{sym}
use Rattle.model.proofs.TestLaws.{pick_true, pick-false}
use Rattle.script.proofs.ReadingLaws.{in_comment, behind-wrong, goes_on, stays, holds_as}
use Rattle.script.specs.Script.{next}
use Rattle.script.proofs.next.Goals as goal

pub returns-then-reading : goal.returns-then-reading
unfolding next
returns-then-reading c = holds_as (stays c.requires) (sym (pick_true _ _ (in_comment _ c.if-reading.true)))

pub returns-then-reading-ne0 : goal.returns-then-reading-ne0
unfolding next
returns-then-reading-ne0 c = holds_as (stays c.requires) (sym (pick_true _ _ (behind-wrong _ c.if-reading-ne0.true)))

pub returns : goal.returns
unfolding next
returns c = holds_as c.read_byte.ensures (sym (pick-false _ _ (goes_on _ c.if-reading.false c.if-reading-ne0.false)))
