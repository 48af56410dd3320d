-- `line::read_byte` meets its contract. Assumes nothing.
use mathlib.Core.Path.{sym, ◌∙◌}
use borrow.Author.Tests.{eq-eqb, ne_eqb}
use Rattle.model.proofs.TestLaws.{pick_true, pick-false}
use Rattle.script.proofs.ReadingLaws.{lent, holds_as}
use Rattle.script.specs.Script.{read_byte}
use Rattle.script.proofs.line.read_byte.Goals as goal

pub returns-then-is_space : goal.returns-then-is_space
unfolding read_byte
returns-then-is_space c = holds_as c.ended.ensures (sym (pick_true _ _ (sym c.is_space.ensures ∙ c.if-is_space.true)))

pub name_byte-requires : goal.name_byte-requires
name_byte-requires c = lent c.requires

pub returns-then-reading-eq0 : goal.returns-then-reading-eq0
unfolding read_byte
returns-then-reading-eq0 c = holds_as (c.name_byte.ensures c.args.words.now c.requires) (sym (pick-false _ _ (sym c.is_space.ensures ∙ c.if-is_space.false) ∙ pick_true _ _ (eq-eqb _ _ c.if-reading-eq0.true)))

pub number_byte-requires : goal.number_byte-requires
number_byte-requires c = lent c.requires

pub returns : goal.returns
unfolding read_byte
returns c = holds_as (c.number_byte.ensures c.args.words.now c.requires) (sym (pick-false _ _ (sym c.is_space.ensures ∙ c.if-is_space.false) ∙ pick-false _ _ (ne_eqb _ _ c.if-reading-eq0.false)))
