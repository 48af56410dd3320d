-- `line::number_byte` meets its contract. Assumes nothing.
use Prim.Native.Nat.{◌≤◌}
use mathlib.Core.Path.{◌≡◌, sym, ap, ◌∙◌}
use native.Mathlib.Omega.{arith}
use borrow.Author.Tests.{le-leb, lt-leb}
use Rattle.model.proofs.TestLaws.{pick_true, pick-false, and_true, and_false}
use Rattle.script.proofs.ReadingLaws.{numbers-counted, full, holds_as}
use Rattle.script.specs.Script.{most_numbers, number_byte}
use Rattle.script.proofs.line.number_byte.Goals as goal

pub returns-then-reading-most : goal.returns-then-reading-most
unfolding number_byte
returns-then-reading-most c =
    let now = c.args.reading in
    let its : c.most.result ≡ most_numbers now.kind = c.most.ensures ∙ ap most_numbers (c.name_of.ensures.known c.requires.kind_most) in
    let none : most_numbers now.kind ≤ now.count = omega (arith, its, c.if-reading-most.true) in
    λ words sizes. holds_as (c.mistaken.ensures words sizes) (sym (pick_true _ _ (and_true (full sizes none) (rw (numbers-counted now words sizes) (le-leb _ _ none)))))

pub digit_byte-requires : goal.digit_byte-requires
digit_byte-requires c =
    let its : c.most.result ≡ most_numbers c.args.reading.kind = c.most.ensures ∙ ap most_numbers (c.name_of.ensures.known c.requires.kind_most) in
    record { sized = c.requires; count_bound = rw (sym its) c.if-reading-most.false }

pub returns : goal.returns
unfolding number_byte
returns c =
    let its : c.most.result ≡ most_numbers c.args.reading.kind = c.most.ensures ∙ ap most_numbers (c.name_of.ensures.known c.requires.kind_most) in
    λ words sizes. holds_as (c.digit_byte.ensures words sizes) (sym (pick-false _ _ (and_false _ _ (rw (numbers-counted c.args.reading words sizes, sym its) (lt-leb _ _ c.if-reading-most.false)))))
