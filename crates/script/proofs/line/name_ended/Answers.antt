-- `line::name_ended` meets its contract. Assumes nothing.
use Rattle.script.specs.Reads.{kind_of}
use Prim.Native.Nat.{ℕ, zero-le}
use mathlib.Core.Bool.{false}
use mathlib.Core.List.{[]}
use mathlib.Core.Path.{refl, sym, ap, ◌∙◌}
use native.Mathlib.Omega.{arith}
use borrow.Author.Tests.{eq-eqb, ne_eqb}
use lib.ListN.{take}
use lib.Seq.{length-take-le}
use Rattle.model.proofs.TestLaws.{pick_true, pick-false, clash}
use Rattle.script.proofs.ReadingLaws.{holds_as, number-some, number-most}
use Rattle.script.specs.Script.{line_of, name_ended}
use Rattle.script.proofs.line.name_ended.Goals as goal

pub slice_bounds-named-end : goal.slice_bounds-named-end
slice_bounds-named-end c = sym (length-take-le c.args.reading.held c.args.reading.name (omega arith))

pub returns-in-None : goal.returns-in-None
unfolding name_ended
returns-in-None c = λ words sizes. holds_as (c.mistaken.ensures words sizes) (sym (pick_true _ _ (eq-eqb _ _ (sym c.named.ensures ∙ ap kind_of c.in-None.is))))

pub returns-in-Some : goal.returns-in-Some
unfolding name_ended
returns-in-Some c =
    let now = c.args.reading in
    λ words sizes.
    let known = c.number_of.ensures ∙ ap kind_of (sym c.in-Some.is) ∙ c.named.ensures in
    holds_as
    record {
      read = ap (λ (kind : ℕ). line_of now.wrong now.comment (take now.held now.name) kind [] false 0) known;
      sized = record {
        room = sizes.room;
        name_length = sizes.name_length;
        held_most = sizes.held_most;
        kind_most = rw known (number-most (take now.held now.name));
        wide_long = sizes.wide_long;
        wide_in = λ i h. absurd (omega arith);
        count_most = zero-le;
        begun_more = λ e. clash e refl;
        value_most = zero-le;
      };
    }
    (sym (pick-false _ _ (rw (sym known) (ne_eqb _ _ (λ e. absurd (omega (arith, number-some c.in-Some.name, c.number_of.ensures, e)))))))
