-- `feed` meets its contract. The invariant: the bytes taken so far printed the text so far. Assumes nothing.
use Prim.Native.Nat.{◌≤◌}
use mathlib.Core.Path.{◌≡◌}
use lib.ListN.{length, take}
use Rattle.sheet.specs.Printed.{holding, Ready, Feeds}
use Rattle.sheet.proofs.feed.Given as goal

abbrev pub invariant-loop-taken : goal.invariant-loop-taken
invariant-loop-taken l = record {
  written_bound : l.written ≤ 65536;
  begun : l.taken ≡ 0 → l.written ≡ 0;
  feeds : Ready l.program (holding l.initial.now l.initial.store) (length l.initial.copy) → Feeds l.program (length l.initial.copy) (holding l.initial.now l.initial.store) (take l.taken l.bytes) (take l.written l.text) (holding l.now l.store);
}
