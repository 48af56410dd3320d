-- `line::larger` meets its contract. Assumes nothing.
use Prim.Native.Nat.{ℕ}
use mathlib.Core.Path.{◌≡◌, refl, sym, ap, ◌∙◌}
use borrow.Author.Tests.{le-leb, lt-leb}
use Rattle.model.proofs.TestLaws.{pick_true, pick-false}
use Rattle.script.proofs.ReadingLaws.{numbers-counted, holds_as}
use Rattle.script.specs.Script.{sized, largest}
use Rattle.script.proofs.line.larger.Goals as goal

pub returns-then-value-largest : goal.returns-then-value-largest
unfolding sized
returns-then-value-largest c =
    λ words sizes.
    let its : c.largest.result ≡ largest c.args.reading.kind c.args.reading.count = c.largest.ensures ∙ ap (λ (kind : ℕ). largest kind c.args.reading.count) (c.name_of.ensures.known sizes.kind_most) in
    holds_as (c.mistaken.ensures words sizes) (sym (pick-false _ _ (rw (numbers-counted c.args.reading words sizes, sym its) (lt-leb _ _ c.if-value-largest.true))))

pub returns : goal.returns
unfolding sized
returns c =
    λ words sizes.
    let its : c.largest.result ≡ largest c.args.reading.kind c.args.reading.count = c.largest.ensures ∙ ap (λ (kind : ℕ). largest kind c.args.reading.count) (c.name_of.ensures.known sizes.kind_most) in
    holds_as
    record {
      read = refl;
      sized = record {
        room = sizes.room;
        name_length = sizes.name_length;
        held_most = sizes.held_most;
        kind_most = sizes.kind_most;
        wide_long = sizes.wide_long;
        wide_in = sizes.wide_in;
        count_most = sizes.count_most;
        begun_more = λ _. c.requires;
        value_most = rw (sym its) c.if-value-largest.false;
      };
    }
    (sym (pick_true _ _ (rw (numbers-counted c.args.reading words sizes, sym its) (le-leb _ _ c.if-value-largest.false))))
