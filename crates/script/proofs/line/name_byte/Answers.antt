-- `line::name_byte` meets its contract: the name's length is how many bytes are held. Assumes nothing.
use Prim.Native.Nat.{ℕ}
use mathlib.Core.List.{List}
use mathlib.Core.Path.{refl, sym, ap, ◌∙◌}
use native.Mathlib.Numerals.{add-one}
use native.Mathlib.Omega.{arith}
use borrow.Author.Tests.{lt-ltb, le-ltb}
use lib.ListN.{length-set}
use lib.Seq.{take-suc-set}
use Rattle.model.proofs.TestLaws.{pick_true, pick-false}
use Rattle.script.proofs.ReadingLaws.{name_held, stays, holds_as}
use Rattle.script.specs.Reads.{numbers_of}
use Rattle.script.specs.Script.{line_of, name_byte}
use Rattle.script.proofs.line.name_byte.Goals as goal

pub returns-then-begins_comment : goal.returns-then-begins_comment
unfolding name_byte
returns-then-begins_comment c = λ words sizes. holds_as (record { read = refl; sized = sizes }) (sym (pick_true _ _ (rw (name_held c.args.reading words sizes) (sym c.begins_comment.ensures ∙ c.if-begins_comment.true))))

pub returns-then-held-ge16 : goal.returns-then-held-ge16
unfolding name_byte
returns-then-held-ge16 c =
    λ words sizes.
    let long = name_held c.args.reading words sizes in
    holds_as (stays sizes) (sym (pick-false _ _ (rw long (sym c.begins_comment.ensures ∙ c.if-begins_comment.false)) ∙ pick-false _ _ (rw long (le-ltb _ _ c.if-held-ge16.true))))

pub returns : goal.returns
unfolding name_byte
returns c =
    let now = c.args.reading in
    λ words sizes.
    let long = name_held now words sizes in
    let more = take-suc-set now.name now.held c.args.byte (omega (arith, sizes.name_length)) in
    holds_as
    record {
      read = ap (λ (name : List ℕ). line_of now.wrong now.comment name now.kind (numbers_of now words) now.begun now.value) (rw add-one more);
      sized = record {
        room = sizes.room;
        name_length = simp length-set sizes.name_length;
        held_most = omega arith;
        kind_most = sizes.kind_most;
        wide_long = sizes.wide_long;
        wide_in = sizes.wide_in;
        count_most = sizes.count_most;
        begun_more = sizes.begun_more;
        value_most = sizes.value_most;
      };
    }
    (sym (pick-false _ _ (rw long (sym c.begins_comment.ensures ∙ c.if-begins_comment.false)) ∙ pick_true _ _ (rw long (lt-ltb _ _ c.if-held-ge16.false))))
