-- `line::number_ended` meets its contract: the number stands behind the others of its kind. Assumes nothing.
use mathlib.Core.Bool.{true, false}
use mathlib.Core.Path.{◌≡◌, sym, ap, ◌∙◌}
use native.Mathlib.Omega.{arith}
use lib.ListN.{length-set}
use Rattle.model.proofs.TestLaws.{clash}
use Rattle.script.proofs.ReadingLaws.{narrow, with_numbers, room_word, room_wide, wide_small, one_more, wide_more, word_more}
use Rattle.script.specs.Reads.{is_wide}
use Rattle.script.proofs.line.number_ended.Goals as goal

pub overflow_add-ended : goal.overflow_add-ended
overflow_add-ended c = omega (arith, room_word c.requires.sized c.requires.begun_value)

pub offset_bounds-wide-count : goal.offset_bounds-wide-count
offset_bounds-wide-count c = omega (arith, room_word c.requires.sized c.requires.begun_value)

pub bounds-wide-count : goal.bounds-wide-count
bounds-wide-count c = room_wide c.requires.sized c.requires.begun_value (sym (c.is_wide.ensures ∙ ap is_wide (c.name_of.ensures.known c.requires.sized.kind_most)) ∙ c.if-is_wide.true)

pub returns-then-is_wide : goal.returns-then-is_wide
returns-then-is_wide c =
    let before = c.args.reading in
    let sizes = c.requires.sized in
    let wide : is_wide before.kind ≡ true = sym (c.is_wide.ensures ∙ ap is_wide (c.name_of.ensures.known c.requires.sized.kind_most)) ∙ c.if-is_wide.true in
    record {
      read = ap (with_numbers before) (wide_more before.kind before.count before.value before.wide c.args.words.now wide (omega (arith, sizes.wide_long, room_wide sizes c.requires.begun_value wide)));
      sized = one_more sizes c.requires.begun_value sizes.room (simp length-set sizes.wide_long) (wide_small sizes c.requires.begun_value);
    }

pub overflow_cast-words : goal.overflow_cast-words
overflow_cast-words c = omega (arith, c.requires.sized.value_most, narrow c.args.reading.kind c.args.reading.count (sym (c.is_wide.ensures ∙ ap is_wide (c.name_of.ensures.known c.requires.sized.kind_most)) ∙ c.if-is_wide.false))

pub offset_bounds-words-count : goal.offset_bounds-words-count
offset_bounds-words-count c = omega (arith, room_word c.requires.sized c.requires.begun_value)

pub bounds-words-count : goal.bounds-words-count
bounds-words-count c = omega (arith, c.requires.sized.room, room_word c.requires.sized c.requires.begun_value)

pub returns : goal.returns
returns c =
    let before = c.args.reading in
    let sizes = c.requires.sized in
    let no-wide : is_wide before.kind ≡ false = sym (c.is_wide.ensures ∙ ap is_wide (c.name_of.ensures.known c.requires.sized.kind_most)) ∙ c.if-is_wide.false in
    record {
      read = ap (with_numbers before) (word_more before.kind before.count before.value before.wide c.args.words.now no-wide (omega (arith, sizes.room, room_word sizes c.requires.begun_value)));
      sized = one_more sizes c.requires.begun_value (simp length-set sizes.room) sizes.wide_long (λ i h e. clash e no-wide);
    }
