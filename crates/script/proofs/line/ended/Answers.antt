-- `line::ended` meets its contract. Assumes nothing.
use mathlib.Core.Path.{sym, ◌∙◌}
use borrow.Author.Tests.{eq-eqb, ne_eqb}
use Rattle.model.proofs.TestLaws.{pick_true, pick-false}
use Rattle.script.proofs.ReadingLaws.{name_held, lent, stays, holds_as}
use Rattle.script.specs.Script.{ended}
use Rattle.script.proofs.line.ended.Goals as goal

pub returns-then-reading-eq0-2 : goal.returns-then-reading-eq0-2
unfolding ended
returns-then-reading-eq0-2 c = holds_as (stays c.requires) (sym (pick_true _ _ (eq-eqb _ _ c.if-reading-eq0.true) ∙ pick_true _ _ (rw (name_held c.args.reading c.args.words.now c.requires) (eq-eqb _ _ c.if-reading-eq0-2.true))))

pub name_ended-requires : goal.name_ended-requires
name_ended-requires c = lent c.requires

pub returns-then-reading-eq0 : goal.returns-then-reading-eq0
unfolding ended
returns-then-reading-eq0 c = holds_as (c.name_ended.ensures c.args.words.now c.requires) (sym (pick_true _ _ (eq-eqb _ _ c.if-reading-eq0.true) ∙ pick-false _ _ (rw (name_held c.args.reading c.args.words.now c.requires) (ne_eqb _ _ c.if-reading-eq0-2.false))))

pub number_ended-requires : goal.number_ended-requires
number_ended-requires c = record { sized = c.requires; begun_value = c.if-reading.true }

pub returns-then-reading : goal.returns-then-reading
unfolding ended
returns-then-reading c = holds_as c.number_ended.ensures (sym (pick-false _ _ (ne_eqb _ _ c.if-reading-eq0.false) ∙ pick_true _ _ c.if-reading.true))

pub returns : goal.returns
unfolding ended
returns c = holds_as (stays c.requires) (sym (pick-false _ _ (ne_eqb _ _ c.if-reading-eq0.false) ∙ pick-false _ _ c.if-reading.false))
