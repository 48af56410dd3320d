-- `last` meets its contract. Assumes nothing.
use mathlib.Core.Path.{sym, ap, ◌∙◌}
use Rattle.model.proofs.TestLaws.{pick_true, pick-false}
use Rattle.script.proofs.ReadingLaws.{in_comment, behind-wrong, goes_on, stays, holds_as}
use Rattle.script.specs.Script.{complete, last}
use Rattle.script.proofs.last.Goals as goal

pub returns-then-reading : goal.returns-then-reading
unfolding last
returns-then-reading c = holds_as (stays c.requires) (sym (pick_true _ _ (in_comment _ c.if-reading.true)))

pub returns-then-reading-ne0 : goal.returns-then-reading-ne0
unfolding last
returns-then-reading-ne0 c = holds_as (stays c.requires) (sym (pick_true _ _ (behind-wrong _ c.if-reading-ne0.true)))

pub returns : goal.returns
unfolding last
returns c = holds_as (c.complete.ensures c.ended.new.words c.ended.ensures.sized) (ap complete c.ended.ensures.read ∙ sym (pick-false _ _ (goes_on _ c.if-reading.false c.if-reading-ne0.false)))
