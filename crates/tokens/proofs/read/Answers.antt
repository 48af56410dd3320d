-- `read` meets its contract. Assumes nothing.
use Prim.Native.Nat.{ℕ, suc, ◌+◌, ◌<◌, ◌≤◌}
use mathlib.Core.List.{List, ◌++◌}
use mathlib.Core.Path.{◌≡◌, refl, sym, ap, subst, ◌∙◌}
use borrow.Author.Tests.{le-leb, lt-leb}
use native.Mathlib.Numerals.{add-one}
use native.Mathlib.Omega.{arith}
use lib.ListN.{length, take, drop}
use lib.Seq.{drop-cons, drop-length}
use Rattle.model.proofs.TestLaws.{impossible, pick_true, pick-false}
use Rattle.tokens.proofs.LineLaws.{count-end, count-least, same_some}
use Rattle.tokens.proofs.WrongLaws.{last_known, none_read, known_written}
use Rattle.tokens.specs.Reads.{Known, AllKnown}
use Rattle.tokens.specs.Tokens.{lines as lines_of, lines_from, line_count, finished, numbers, all_numbers}
use Rattle.tokens.specs.declared.Reading.{Reading}
use Rattle.std.specs.Prelude.{Some}
use Rattle.tokens.proofs.read.Goals as goal

pub returns-then-lines-room-clause-text : goal.returns-then-lines-room-clause-text
returns-then-lines-room-clause-text c =
    let text = c.args.text.now in
    let over : length c.args.room.now < line_count text = omega (arith, c.count-lines.ensures) in
    record { count = sym (pick-false _ _ (lt-leb _ _ over)); read = λ n e. impossible (cc) }

pub loop-byte-init : goal.loop-byte-init
unfolding lines_of all_numbers
loop-byte-init c =
    record { same_length = refl; small_value = c.start.ensures.small_value; known = none_read c.args.room.now _ refl c.start.ensures.value; count = omega arith; read = ap (λ (r : Reading). lines_from r c.args.text.now) c.start.ensures.value }

pub take-progress-requires : goal.take-progress-requires
take-progress-requires c =
    let text = c.args.text.now in
    let some_line = count-least (drop c.loop-byte.byte-index text) in
    record { room_left = omega (arith, some_line, c.loop-byte.invariant.same_length, c.loop-byte.invariant.count, c.count-lines.ensures); small_value = c.loop-byte.invariant.small_value }

pub loop-byte-preserved : goal.loop-byte-preserved
loop-byte-preserved c =
    let text = c.args.text.now in
    let i = c.loop-byte.byte-index in
    let there = drop-cons text i 0 (omega arith) in
    let taken = c.take-progress.ensures.lines in
    record {
      same_length = c.take-progress.auto.room ∙ c.loop-byte.invariant.same_length;
      small_value = taken.small_value;
      known = c.take-progress.ensures.known c.loop-byte.invariant.known;
      count = rw add-one (taken.count (drop (suc i) text) ∙ ap (λ (l : List ℕ). c.loop-byte.progress.done + line_count l) (sym there) ∙ c.loop-byte.invariant.count);
      read =
          rw add-one
          (taken.lines (drop (suc i) text) ∙ ap (λ (l : List ℕ). all_numbers (take c.loop-byte.progress.done c.loop-byte.room) ++ lines_from c.loop-byte.progress.reading l) (sym there)
          ∙ c.loop-byte.invariant.read);
    }

pub write-requires : goal.write-requires
write-requires c =
    let text = c.args.text.now in
    let some_line = count-least (drop c.loop-byte.byte-index text) in
    omega (arith, some_line, c.loop-byte.invariant.same_length, c.loop-byte.invariant.count, c.count-lines.ensures)

pub shape_of-room : goal.shape_of-room
shape_of-room c = c.write.auto.room ∙ c.loop-byte.invariant.same_length

pub returns-clause-text : goal.returns-clause-text
unfolding finished lines_from line_count
returns-clause-text c =
    let text = c.args.text.now in
    let e : c.loop-byte.byte-index ≡ length text = omega arith in
    let counted : ◌≡◌ {A = ℕ} c.count-lines.result (line_count text) = c.count-lines.ensures in
    let none = ap (λ (n : ℕ). drop n text) e ∙ drop-length text in
    let all : c.loop-byte.progress.done + 1 ≡ line_count text = ap (λ (l : List ℕ). c.loop-byte.progress.done + line_count l) (sym none) ∙ c.loop-byte.invariant.count in
    let fits : line_count text ≤ length c.write.new.room = omega (arith, c.count-lines.ensures, c.write.auto.room, c.loop-byte.invariant.same_length) in
    record {
      count = ap (λ (n : ℕ). Some n) counted ∙ sym (pick_true _ _ (le-leb _ _ fits));
      read =
          λ n e.
          let last : n ≡ c.loop-byte.progress.done + 1 = omega (arith, all, c.count-lines.ensures, same_some e) in
          rw last
          (c.write.ensures
          ∙ ap (λ (r : Reading). all_numbers (take c.loop-byte.progress.done c.loop-byte.room) ++ numbers r) c.last.ensures.value
          ∙ ap (λ (l : List ℕ). all_numbers (take c.loop-byte.progress.done c.loop-byte.room) ++ lines_from c.loop-byte.progress.reading l) (sym none)
          ∙ c.loop-byte.invariant.read);
    }

pub returns-clause-known : goal.returns-clause-known
returns-clause-known c =
    λ n e.
    let all = count-end c.args.text.now c.loop-byte.byte-index (omega arith) in
    let last : n ≡ c.loop-byte.progress.done + 1 = omega (arith, all, c.loop-byte.invariant.count, c.count-lines.ensures, same_some e) in
    let (lines, reading) = c.loop-byte.invariant.known in
    let right : Known c.last.result.wrong = rw c.last.ensures.value (last_known c.loop-byte.progress.reading reading) in
    let written = known_written (take c.loop-byte.progress.done c.loop-byte.room) _ _ lines right c.write.ensures in
    subst (λ (k : ℕ). AllKnown (take k c.write.new.room)) (sym last) written
