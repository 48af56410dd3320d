-- `number_at` meets its contract. Assumes nothing.
use mathlib.Core.Path.{sym, ap, ◌∙◌}
use native.Mathlib.Omega.{arith}
use Rattle.script.proofs.ReadingLaws.{most-many, wide_few, number-none, number_wide, number_word}
use Rattle.script.specs.Reads.{is_wide}
use Rattle.script.proofs.number_at.Goals as goal

pub returns-then-i-reading : goal.returns-then-i-reading
returns-then-i-reading c = sym (number-none c.args.reading c.args.words.now c.requires c.args.i c.if-i-reading.true)

pub offset_bounds-wide-i : goal.offset_bounds-wide-i
offset_bounds-wide-i c = omega (arith, c.requires.count_most, most-many c.args.reading.kind)

pub bounds-wide-i : goal.bounds-wide-i
bounds-wide-i c = omega (arith, c.requires.wide_long, c.requires.count_most, wide_few c.args.reading.kind (sym (c.is_wide.ensures ∙ ap is_wide (c.name_of.ensures.known c.requires.kind_most)) ∙ c.if-is_wide.true))

pub returns-then-is_wide : goal.returns-then-is_wide
returns-then-is_wide c = sym (number_wide c.args.reading c.args.words.now c.requires c.args.i c.if-i-reading.false (sym (c.is_wide.ensures ∙ ap is_wide (c.name_of.ensures.known c.requires.kind_most)) ∙ c.if-is_wide.true))

pub offset_bounds-words-i : goal.offset_bounds-words-i
offset_bounds-words-i c = omega (arith, c.requires.count_most, most-many c.args.reading.kind)

pub bounds-words-i : goal.bounds-words-i
bounds-words-i c = omega (arith, c.requires.room, c.requires.count_most, most-many c.args.reading.kind)

pub returns : goal.returns
returns c = sym (number_word c.args.reading c.args.words.now c.requires c.args.i c.if-i-reading.false (sym (c.is_wide.ensures ∙ ap is_wide (c.name_of.ensures.known c.requires.kind_most)) ∙ c.if-is_wide.false))
