-- `line::complete` meets its contract. Assumes nothing.
use mathlib.Core.Path.{◌≡◌, sym, ap, ◌∙◌}
use borrow.Author.Tests.{le-ltb, lt-ltb, eq-eqb, ne_eqb}
use Rattle.model.proofs.TestLaws.{pick_true, pick-false, and_true, and_false}
use Rattle.model.specs.Test.{both}
use Rattle.script.proofs.ReadingLaws.{numbers-counted, stays, holds_as}
use Rattle.script.specs.Script.{complete, least_numbers}
use Rattle.script.proofs.line.complete.Goals as goal

pub returns-then-reading-least : goal.returns-then-reading-least
unfolding complete both
returns-then-reading-least c =
    λ words sizes.
    let its : c.least.result ≡ least_numbers c.args.reading.kind = c.least.ensures ∙ ap least_numbers (c.name_of.ensures.known sizes.kind_most) in
    holds_as (stays sizes) (sym (pick-false _ _ (rw (numbers-counted c.args.reading words sizes, sym its, le-ltb _ _ c.if-reading-least.true))))

pub returns-then-reading-ne0 : goal.returns-then-reading-ne0
unfolding complete
returns-then-reading-ne0 c = λ words sizes. holds_as (stays sizes) (sym (pick-false _ _ (and_false _ _ (ne_eqb _ _ c.if-reading-ne0.true))))

pub returns : goal.returns
unfolding complete
returns c =
    λ words sizes.
    let its : c.least.result ≡ least_numbers c.args.reading.kind = c.least.ensures ∙ ap least_numbers (c.name_of.ensures.known sizes.kind_most) in
    holds_as (c.mistaken.ensures words sizes) (sym (pick_true _ _ (and_true (rw (numbers-counted c.args.reading words sizes, sym its) (lt-ltb _ _ c.if-reading-least.false)) (eq-eqb _ _ c.if-reading-ne0.false))))
