-- `assemble` meets its contract. Assumes nothing.
use Prim.Native.Nat.{ℕ, ◌≤◌}
use mathlib.Core.List.{List}
use mathlib.Core.Path.{◌≡◌, sym, subst, ◌∙◌}
use borrow.Author.Tests.{le-leb, lt-leb}
use native.Mathlib.Omega.{arith}
use lib.ListN.{length, take}
use lib.Seq.{length-take-le}
use Rattle.model.proofs.TestLaws.{pick_true, pick-false}
use Rattle.model.specs.Test.{both}
use Rattle.tokens.proofs.LineLaws.{count-least}
use Rattle.tokens.specs.Tokens.{lines, line_count}
use Rattle.assembly.proofs.AssembleLaws.{read_all, read_none, is_long}
use Rattle.assembly.specs.Assembles.{AssemblesLines, assemble_mistake, assembled}
use Rattle.assembly.proofs.assemble.Goals as goal

pub returns-then-text-gt1048576-clause-text : goal.returns-then-text-gt1048576-clause-text
unfolding assemble_mistake both
returns-then-text-gt1048576-clause-text c =
    let long = lt-leb (length c.args.text.now) 1048576 (omega arith) in
    is_long c.args.text.now c.args.words.now _ (sym (pick-false _ _ (rw long)))

pub returns-in_default-clause-text : goal.returns-in_default-clause-text
unfolding assemble_mistake both
returns-in_default-clause-text c =
    let text = c.args.text.now in
    let many = read_none text (length c.read.new.room) _ c.read.ensures.text.count c.in_default.is in
    let short = le-leb (length text) 1048576 (omega arith) in
    let long = lt-leb (line_count text) 65536 (omega (arith, many, c.read.auto.room, c.told-room)) in
    is_long text c.args.words.now _ (sym (pick-false _ _ (rw (short, long))))

pub shared_ref_as_front-assemble_lines : goal.shared_ref_as_front-assemble_lines
shared_ref_as_front-assemble_lines c =
    let (fits, all) = read_all c.args.text.now (length c.read.new.room) _ _ c.read.ensures.text.count c.in-Some.is in
    omega (arith, fits, all, c.read.auto.room, c.told-room)

pub assemble_lines-requires-clause-some_line : goal.assemble_lines-requires-clause-some_line
assemble_lines-requires-clause-some_line c =
    let (fits, all) = read_all c.args.text.now (length c.read.new.room) _ _ c.read.ensures.text.count c.in-Some.is in
    let count : c.in-Some.count ≤ length c.read.new.room = omega (arith, fits, all) in
    omega (arith, all, count-least c.args.text.now, length-take-le c.in-Some.count c.read.new.room count)

pub returns-clause-text : goal.returns-clause-text
unfolding assemble_mistake assembled both
returns-clause-text c =
    let text = c.args.text.now in
    let (fits, all) = read_all text (length c.read.new.room) _ _ c.read.ensures.text.count c.in-Some.is in
    let count : c.in-Some.count ≤ length c.read.new.room = omega (arith, fits, all) in
    let size : length (take c.in-Some.count c.read.new.room) ≡ line_count text = length-take-le c.in-Some.count c.read.new.room count ∙ all in
    let short = le-leb (length text) 1048576 (omega arith) in
    let few = le-leb (line_count text) 65536 (omega (arith, fits, c.read.auto.room, c.told-room)) in
    let left = c.assemble_lines.new.words in
    let of-lines = subst (λ (ls : List ℕ). AssemblesLines ls (length (take c.in-Some.count c.read.new.room)) left c.assemble_lines.result) (c.read.ensures.text.read c.in-Some.count c.in-Some.is) c.assemble_lines.ensures.text in
    let of-text = subst (λ (n : ℕ). AssemblesLines (lines text) n left c.assemble_lines.result) size of-lines in
    record {
      mistake = of-text.mistake ∙ sym (pick_true _ _ (rw (short, few)));
      inside = of-text.inside;
      made = of-text.made;
      accepted = of-text.accepted;
    }
