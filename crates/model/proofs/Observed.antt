-- What a bench sees that makes calls alone, from demand 3. It cites: Demand3, SerialLaws, CallLaws. Assumes nothing.
use Prim.Native.Nat.{ℕ}
use mathlib.Core.Path.{◌≡◌, ap, ◌∙◌, subst}
use mathlib.Core.List.{List, [], ◌∷◌, ◌++◌}
use native.Mathlib.Omega.{arith}
use lib.ListN.{length}
use Rattle.model.proofs.CallLaws.{after_append, recovery_by_calls}
use Rattle.model.proofs.Demand3.{demand3}
use Rattle.model.proofs.SerialLaws.{tasks_follow}
use Rattle.model.specs.Calls.{Call, Boot, Step, Cut, Now, call, history, after_calls, steps}
use Rattle.model.specs.Claims.{ByCalls}
use Rattle.model.specs.Demand3.{recovery_steps, AsSerialRun, AllExpected, recovering, Observed, ObservedByCalls}
use Rattle.model.specs.Device.{off, cut}
use Rattle.model.specs.Serial.{given}
use Rattle.model.specs.Store.{view, settled, waiting, format_check, format}
use Rattle.model.specs.Types.{Answer, Body, Ok, Record}

module _ (p : List ℕ) (l q : ℕ) (s : List ℕ) (e : format_check p l q s ≡ Ok tt) where
  abbrev fresh-store : List ℕ
  fresh-store = format p l q s

  -- every call of a list behind the calls before
  expected_from : (cs before : List Call)
      → AllExpected (history p (after_calls p fresh-store off before).store (after_calls p fresh-store off before).device cs)
  unfolding history AllExpected after_calls
  expected_from [] before = tt
  expected_from (c ∷ cs) before = (
    (demand3 p l q s e before).refusals c,
    subst (λ (x : Now). AllExpected (history p x.store x.device cs)) (after_append p fresh-store off before (c ∷ []))
        (expected_from cs (before ++ (c ∷ []))),
  )

  module _ (cs : List Call) where
    abbrev d : AsSerialRun p l q fresh-store cs
    d = demand3 p l q s e cs

    abbrev now : Now
    now = after_calls p fresh-store off cs

    abbrev n : ℕ
    n = recovery_steps (view now.store)

    -- recovery behind the calls
    recovering_is : (m : ℕ) → recovering p fresh-store cs m ≡ (after_calls p now.store off (Boot ∷ steps m)).store
    unfolding after_calls call cut settled
    recovering_is m = ap (λ (x : Now). x.store) (after_append p fresh-store off cs (Cut ∷ Boot ∷ steps m))

    by_calls : ByCalls p now.store n (d.recovers n (omega arith)).store
    by_calls = recovery_by_calls p now.store n n (d.recovers n (omega arith)).store (d.recovers n (omega arith)).ends

    leaves : recovering p fresh-store cs n ≡ (d.recovers n (omega arith)).store
    leaves = recovering_is n ∙ by_calls.leaves

    oldest-waits : (n : ℕ) → (call p now.store now.device Step).answer ≡ Answer.Committed (Body.Event n)
        → (r : Record) × (rest : List Record) × (waiting (view now.store) ≡ r ∷ rest) × (r.event ≡ n)
    oldest-waits n a = let r = d.bodies (Body.Event n) a in (r.oldest, r.rest, d.waits ∙ r.there, r.named)

    seen : Observed p l q fresh-store cs
    unfolding after_calls
    seen =
        record {
          state = d.state;
          ran = d.ran (length cs) (omega arith);
          tasks = tasks_follow (length cs) (given p l q) (history p fresh-store off cs) d.state (d.ran (length cs) (omega arith));
          answers = expected_from cs [];
          goes_on = λ m h. rw (recovering_is m) (by_calls.goes_on m h);
          ends = rw leaves by_calls.ended;
          left = rw leaves (d.recovers n (omega arith)).left;
          balance = rw d.waits d.balance;
          dropped = d.dropped;
          oldest = oldest-waits;
        }

pub observed : ObservedByCalls
observed p l q s e cs = seen p l q s e cs
