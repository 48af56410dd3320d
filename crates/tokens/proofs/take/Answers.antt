-- `take` meets its contract: a line feed ends the line, any other byte goes on with it. Assumes nothing.
use Prim.Native.Nat.{ℕ}
use mathlib.Core.List.{List, ◌++◌, append_assoc}
use mathlib.Core.Path.{sym, ap, ◌∙◌}
use borrow.Author.Tests.{eq-eqb, ne_eqb}
use native.Mathlib.Omega.{arith}
use lib.ListN.{take}
use Rattle.model.proofs.TestLaws.{pick_true, pick-false}
use Rattle.tokens.proofs.LineLaws.{count_of, feed_ends, other_goes_on}
use Rattle.tokens.proofs.WrongLaws.{next_known, last_known, start_known, known_written}
use Rattle.tokens.specs.Reads.{Known}
use Rattle.tokens.specs.Tokens.{finished, lines_from, numbers, all_numbers}
use Rattle.tokens.specs.declared.Reading.{Reading}
use Rattle.tokens.proofs.take.Goals as goal

pub returns-then-byte-eq10-clause-lines : goal.returns-then-byte-eq10-clause-lines
unfolding finished
returns-then-byte-eq10-clause-lines c =
    let room = c.args.room.now in
    let reading = c.args.progress.reading in
    let done = c.args.progress.done in
    let byte = c.args.byte in
    let written =
    c.write.ensures ∙ ap (λ (r : Reading). all_numbers (take done room) ++ numbers r) c.last.ensures.value
    in
    record {
      lines =
          λ rest.
          ap (λ (l : List ℕ). l ++ lines_from c.start.result rest) written
          ∙ ap (λ (r : Reading). all_numbers (take done room) ++ finished reading ++ lines_from r rest) c.start.ensures.value
          ∙ append_assoc (all_numbers (take done room)) (finished reading) _
          ∙ ap (λ (l : List ℕ). all_numbers (take done room) ++ l) (sym (feed_ends reading byte rest c.if-byte-eq10.true));
      count = λ rest. omega (arith, count_of byte rest, pick_true {A = ℕ} 1 0 (eq-eqb _ _ c.if-byte-eq10.true));
      small_value = c.start.ensures.small_value;
    }

pub returns-clause-lines : goal.returns-clause-lines
returns-clause-lines c =
    let room = c.args.room.now in
    let reading = c.args.progress.reading in
    let done = c.args.progress.done in
    let byte = c.args.byte in
    record {
      lines =
          λ rest.
          ap (λ (r : Reading). all_numbers (take done room) ++ lines_from r rest) c.next.ensures.value
          ∙ ap (λ (l : List ℕ). all_numbers (take done room) ++ l) (sym (other_goes_on reading byte rest c.if-byte-eq10.false));
      count = λ rest. omega (arith, count_of byte rest, pick-false {A = ℕ} 1 0 (ne_eqb _ _ c.if-byte-eq10.false));
      small_value = c.next.ensures.small_value;
    }

pub returns-then-byte-eq10-clause-known : goal.returns-then-byte-eq10-clause-known
returns-then-byte-eq10-clause-known c =
    λ before.
    let now : Known c.last.result.wrong = rw c.last.ensures.value (last_known c.args.progress.reading before.1) in
    (known_written (take c.args.progress.done c.args.room.now) _ _ before.0 now c.write.ensures, start_known _ c.start.ensures.value)

pub returns-clause-known : goal.returns-clause-known
returns-clause-known c = λ before. (before.0, rw c.next.ensures.value (next_known c.args.progress.reading before.1 c.args.byte))
