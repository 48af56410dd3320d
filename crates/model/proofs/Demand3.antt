-- Demand 3, whole: for any list of boots, steps, posts and cuts, refused ones among them, on a store freshly formatted with a checked
-- program, the device off at first. It cites: Fresh (the start), KeptWords (each call), Recovery, SerialLaws. Assumes nothing.
use Prim.Native.Nat.{ℕ, suc, ◌+◌, ◌≤◌}
use mathlib.Core.Path.{◌≡◌, refl, sym, ap, subst, ◌∙◌}
use mathlib.Core.Logic.{inl, inr}
use mathlib.Core.Bool.{Bool, true, false}
use mathlib.Core.List.{List, [], ◌∷◌, ◌++◌, append_assoc, append-nil}
use native.Mathlib.Nat.{add-zero}
use native.Mathlib.Omega.{arith}
use lib.ListN.{length, length-append}
use Rattle.model.proofs.Fresh.{format-passed, fresh-words}
use Rattle.model.proofs.Kept.{TellsDropped}
use Rattle.model.proofs.KeptWords.{InvWords, call_kept, view-at}
use Rattle.model.proofs.Recovery.{recovers, waiting_is}
use Rattle.model.proofs.SerialLaws.{Leaves, adds, tell-leaves, runs-body}
use Rattle.model.proofs.StoreLaws.{view_at}
use Rattle.model.proofs.BurstLaws.{burst_passes}
use Rattle.model.proofs.Invariant.{AtWork, HandlesAt, Inv}
use Rattle.model.proofs.TestLaws.{clash}
use Rattle.model.proofs.HandlerLaws.{Accepting, storing, replacing, Way, call_way}
use Rattle.model.proofs.CameLaws.{came_bursts, came_length, came_leaves, events-length, committed-length, gone-length}
use Rattle.model.specs.Accepted.{Sound}
use Rattle.model.specs.AllOrNone.{came_from, joined, AllBursts, committed_event, committed_events, events_of, gone_records, committed_of, dropped_of}
use Rattle.model.specs.Burst.{is_burst, records_at, carried}
use Rattle.model.specs.Calls.{Call, Step, call, history, after_calls, is_accept, events_accepted}
use Rattle.model.specs.Demand3.{AsSerialRun, Demand3}
use Rattle.model.specs.Device.{Outcome, fresh, off, burst_length, handled}
use Rattle.model.specs.Program.{memory_words}
use Rattle.model.specs.Serial.{Serial, given, tell, and_then, serial_from, serial, serial_start, run_body}
use Rattle.model.specs.Store.{Store, waiting, settled, formatted}
use Rattle.model.specs.Test.{pick}
use Rattle.model.specs.Types.{Answer, Device, Handler, Option, Record, Some}

-- after a list of calls that begins with the invariant, and k calls before it
pub record CallsKept (p : List ℕ) (l q : ℕ) (s : List ℕ) (d : Device) (z : Serial) (k : ℕ) (cs : List Call) : Type 0 where
  pub state : Serial
  pub ran : (fuel : ℕ) → k + length cs ≤ fuel → serial_from fuel (given p l q) z (history p s d cs) ≡ Some state
  pub inv : InvWords p l q (after_calls p s d cs).store (after_calls p s d cs).device state (k + length cs)
  -- the bursts that came in, from the one on its way on
  pub bursts : AllBursts (came_from (handled d) (history p s d cs))
  pub accepted : events_accepted p s d cs ≡ length (joined (came_from (handled d) (history p s d cs)))
  -- the records that left, and those that were dropped
  pub lost : List Record
  pub leaves : Leaves (z.records ++ joined (came_from (handled d) (history p s d cs))) state.records (committed_events (history p s d cs)) lost
  pub dropped_are : state.posting.dropped ≡ z.posting.dropped ++ lost

-- what one call adds: the latest post is the burst on its way
adds_way : (p : List ℕ) (v : Store) (d : Device) (z : Serial) (k : ℕ) (c : Call) (o : Outcome) → Inv p v d z k → Way d c o
    → (is_accept o.answer ≡ true → is_burst (handled d) ≡ true) × (adds o.answer z.posting.posted ≡ adds o.answer (handled d))
unfolding adds fresh burst_length pick
adds_way p v d z k c o (inl off') way =
    let off_now : d.on ≡ false = ap (λ (u : Device). u.on) off'.is_off in
    (λ e. clash (way.at_work e).3 off_now, by_test (is_accept o.answer) refl)
  where
    by_test : (b : Bool) → is_accept o.answer ≡ b → pick b z.posting.posted [] ≡ pick b (handled d) []
    by_test true e = clash (way.at_work e).3 (ap (λ (u : Device). u.on) off'.is_off)
    by_test false e = refl
adds_way p v d z k c o (inr i) way =
    (λ e. let (h, q, w, on) = way.at_work e in (work h q w).0, by_test (is_accept o.answer) refl)
  where
    by_records : (n made : ℕ) (dropped : Option Record) → burst_length d.handler ≡ n
        → AtWork p v.queue v.queue_records v.head v.tail z.posting made (carried d.burst n) dropped
        → (is_burst (handled d) ≡ true) × (z.posting.posted ≡ handled d)
    by_records n made dropped e a =
        let same : handled d ≡ carried d.burst n = ap (carried d.burst) e in
        (ap is_burst same ∙ burst_passes _ a.least a.most, a.posted_is ∙ sym same)

    work : (h : Handler) → d.handler ≡ h → Accepting h → (is_burst (handled d) ≡ true) × (z.posting.posted ≡ handled d)
    work h q (storing {n = n} {c = made}) = by_records n made _ (ap burst_length q) (subst (HandlesAt p v z d.burst) q i.handles)
    work h q (replacing {c = made}) = by_records 1 made _ (ap burst_length q) (subst (HandlesAt p v z d.burst) q i.handles)

    by_test : (b : Bool) → is_accept o.answer ≡ b → pick b z.posting.posted [] ≡ pick b (handled d) []
    by_test true e = let (h, q, w, on) = way.at_work e in (work h q w).1
    by_test false e = refl

pub calls-kept : (p : List ℕ) → Sound p → (l q : ℕ) (cs : List Call) (s : List ℕ) (d : Device) (z : Serial) (k : ℕ) → InvWords p l q s d z k → CallsKept p l q s d z k cs
unfolding serial_from history after_calls and_then came_from joined committed_events events_accepted events_of gone_records committed_of dropped_of
calls-kept p sound l q [] s d z k i =
    record {
      state = z;
      ran = λ fuel h. refl;
      inv = rw add-zero i;
      bursts = tt;
      accepted = refl;
      lost = [];
      leaves = record { gone = []; is = append-nil z.records; events_are = refl; dropped_are = refl };
      dropped_are = sym (append-nil z.posting.dropped);
    }
calls-kept p sound l q (c ∷ cs) s d z k i =
    let o = call p s d c in
    let h = call_kept p sound l q s d z k i c in
    let rest = calls-kept p sound l q cs (settled s o.write) o.device h.serial (suc k) h.inv in
    let e : suc k + length cs ≡ k + length (c ∷ cs) = omega arith in
    let way = call_way p s d c in
    let (burst, same) = adds_way p (view_at (memory_words p) l q s) d z k c o i.inv way in
    let later = history p (settled s o.write) o.device cs in
    let one = tell-leaves (suc k) (given p l q) z h.serial c o.answer (h.tells (suc k) (omega arith)) in
    record {
      state = rest.state;
      ran =
          λ fuel b.
          ap (λ (x : Option Serial). and_then x (λ y. serial_from fuel (given p l q) y later)) (h.tells fuel (omega arith))
          ∙ rest.ran fuel (omega arith);
      inv = rw e at rest.inv;
      bursts = came_bursts (handled d) c o.answer later burst (subst (λ (rs : List Record). AllBursts (came_from rs later)) way.next rest.bursts);
      accepted =
          ap (λ (n : ℕ). n + events_accepted p (settled s o.write) o.device cs) way.accepted
          ∙ came_length (handled d) c o.answer later (rest.accepted ∙ ap (λ (rs : List Record). length (joined (came_from rs later))) way.next);
      lost = one.lost ++ rest.lost;
      leaves =
          came_leaves (handled d) c o.answer later z.records h.serial.records rest.state.records (committed_event o.answer) (committed_events later)
          one.lost rest.lost
          (subst (λ (rs : List Record). Leaves (z.records ++ rs) h.serial.records (committed_event o.answer) one.lost) same one.leaves)
          (subst (λ (rs : List Record). Leaves (h.serial.records ++ joined (came_from rs later)) rest.state.records (committed_events later) rest.lost) way.next rest.leaves);
      dropped_are =
          rest.dropped_are
          ∙ ap (λ (rs : List Record). rs ++ rest.lost) one.dropped_are
          ∙ append_assoc z.posting.dropped one.lost rest.lost;
    }

tells_dropped : (z : Serial) (x : Option Record) → TellsDropped z (Answer.Accepted x) → x ≡ z.posting.dropped_for
tells_dropped z x t = t

from_formatted : (p : List ℕ) → Sound p → (l q : ℕ) (cs : List Call) → InvWords p l q (formatted p l q) off (serial_start (given p l q)) 0 → AsSerialRun p l q (formatted p l q) cs
unfolding serial serial_start tell fresh records_at burst_length
from_formatted p sound l q cs i =
    let a = calls-kept p sound l q cs (formatted p l q) off (serial_start (given p l q)) 0 i in
    let now = after_calls p (formatted p l q) off cs in
    let n = length cs in
    let next = call_kept p sound l q now.store now.device a.state (0 + n) a.inv in
    record {
      state = a.state;
      ran = λ fuel h. a.ran fuel (omega arith);
      recovers = recovers p sound l q now.store now.device a.state (0 + n) a.inv;
      waits =
          ap waiting (view-at p sound l q now.store now.device a.state (0 + n) a.inv)
          ∙ waiting_is p (view_at (memory_words p) l q now.store) now.device a.state (0 + n) a.inv.inv;
      balance =
          let left = a.leaves in
          let as_many = ap length left.is ∙ length-append (gone_records left.gone) a.state.records in
          let completed = sym (events-length (committed_of left.gone)) ∙ ap length left.events_are ∙ committed-length (history p (formatted p l q) off cs) in
          let lost = ap length (left.dropped_are ∙ sym a.dropped_are) in
          omega (arith, a.accepted, as_many, gone-length left.gone, completed, lost);
      dropped = λ x e. tells_dropped a.state x (rw e at (next Step).told);
      refusals = λ c. (next c).expected;
      bodies =
          λ b e.
          let t : run_body (suc n) p a.state b ≡ Some (next Step).serial = rw e at ((next Step).tells (suc n) (omega arith)) in
          runs-body (suc n) p a.state (next Step).serial b t;
    }

pub demand3 : Demand3
demand3 p l q s e cs =
    let f = format-passed p l q s e in
    rw f.store_is (from_formatted p f.sound l q cs (fresh-words p f.sound l q f.sizes))
