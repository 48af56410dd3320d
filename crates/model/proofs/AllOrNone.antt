-- Several events or none, for any list of calls on a fresh store. It cites: Fresh (the start), Demand3 (what came in, of a list), Observed
-- (recovery). Assumes nothing.
use Rattle.model.specs.Types.{Record}
use Prim.Native.Nat.{ℕ, ◌+◌}
use mathlib.Core.Path.{◌≡◌, sym, ap, ◌∙◌}
use mathlib.Core.List.{List, ◌++◌}
use native.Mathlib.Omega.{arith}
use lib.ListN.{length}
use Rattle.model.proofs.Demand3.{CallsKept, calls-kept}
use Rattle.model.proofs.Fresh.{Formatted, format-passed, fresh-words}
use Rattle.model.proofs.KeptWords.{view-at}
use Rattle.model.proofs.Observed.{observed}
use Rattle.model.proofs.Recovery.{waiting_is}
use Rattle.model.proofs.SerialLaws.{some_same}
use Rattle.model.proofs.StoreLaws.{view_at}
use Rattle.model.specs.AllOrNone.{ComeWhole, BurstsComeWhole, gone_records}
use Rattle.model.specs.Burst.{records_at}
use Rattle.model.specs.Calls.{Call}
use Rattle.model.specs.Demand3.{reached, Observed}
use Rattle.model.specs.Device.{fresh, off, burst_length}
use Rattle.model.specs.Program.{memory_words}
use Rattle.model.specs.Serial.{Serial, given, serial, serial_start}
use Rattle.model.specs.Store.{view, waiting, formatted}

module _ (p : List ℕ) (l q : ℕ) (s : List ℕ) (f : Formatted p l q s) (cs : List Call) where
  abbrev fresh-store : List ℕ
  fresh-store = formatted p l q

  abbrev start : Serial
  start = serial_start (given p l q)

  kept : CallsKept p l q fresh-store off start 0 cs
  kept = calls-kept p f.sound l q cs fresh-store off start 0 (fresh-words p f.sound l q f.sizes)

  waits : waiting (view (reached p fresh-store cs).store) ≡ kept.state.records
  waits =
      let now = reached p fresh-store cs in
      ap waiting (view-at p f.sound l q now.store now.device kept.state (0 + length cs) kept.inv)
      ∙ waiting_is p (view_at (memory_words p) l q now.store) now.device kept.state (0 + length cs) kept.inv.inv

  come_whole : Observed p l q fresh-store cs → ComeWhole p l q fresh-store cs
  unfolding serial serial_start fresh records_at burst_length
  come_whole seen =
      let same : seen.state ≡ kept.state = some_same (sym seen.ran ∙ kept.ran (length cs) (omega arith)) in
      record {
        bursts = kept.bursts;
        gone = kept.leaves.gone;
        in_order = kept.leaves.is ∙ ap (λ (rs : List Record). gone_records kept.leaves.gone ++ rs) (sym waits);
        committed = kept.leaves.events_are;
        state = kept.state;
        ran = kept.ran (length cs) (omega arith);
        dropped = kept.leaves.dropped_are ∙ sym kept.dropped_are;
        recovered = seen.left.records ∙ ap (λ (z : Serial). z.records) same ∙ sym waits;
      }

pub bursts_come_whole : BurstsComeWhole
bursts_come_whole p l q s e cs =
    let f = format-passed p l q s e in
    rw f.store_is (come_whole p l q s f cs (rw f.store_is at (observed p l q s e cs)))
