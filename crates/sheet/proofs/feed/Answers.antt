-- `feed` meets its contract. Assumes nothing.
use Prim.Native.Nat.{zero-le}
use mathlib.Core.Path.{◌≡◌, refl}
use native.Mathlib.Omega.{arith}
use lib.ListN.{length}
use Rattle.model.proofs.TestLaws.{same_or}
use Rattle.sheet.proofs.SheetLaws.{feeds_nothing, feeds_more}
use Rattle.sheet.proofs.feed.Goals as goal

pub loop-taken-init : goal.loop-taken-init
loop-taken-init c = record { written_bound = zero-le; begun = λ _. refl; feeds = λ ready. feeds_nothing _ _ _ ready }

pub loop-taken-preserved : goal.loop-taken-preserved
loop-taken-preserved c =
    let loop = c.loop-taken in
    let taken = c.take-printed in
    record {
      written_bound = omega (arith, taken.ensures.short, c.if-written.false);
      begun = λ none. absurd (omega arith);
      feeds = λ ready. feeds_more _ _ _ _ _ _ c.args.bytes.now loop.text _ loop.taken _ _ loop.auto.copy c.loop-taken-test.true (loop.invariant.feeds ready) taken.ensures;
    }

pub returns-then-written : goal.returns-then-written
returns-then-written c =
    let loop = c.loop-taken in
    record {
      written_bound = (loop.invariant.written_bound, omega arith);
      taken_nonzero = λ some. same_or loop.taken 0 (λ z. absurd (omega (arith, loop.invariant.begun z, c.if-written.true))) (λ z. omega arith);
      feeds = loop.invariant.feeds;
    }

pub returns : goal.returns
returns c = record { written_bound = (c.loop-taken.invariant.written_bound, omega arith); taken_nonzero = λ some. some; feeds = λ ready. let all : length c.args.bytes.now ≡ c.loop-taken.taken = omega arith in rw all (c.loop-taken.invariant.feeds ready) }
