-- Laws of a burst (specs/Burst.antt): its records from words and back, and its events. Assumes nothing.
use Prim.Native.Nat.{ℕ, zero, suc, ◌≤◌, ◌<◌}
use mathlib.Core.Path.{◌≡◌, refl, ap, ◌∙◌, sym}
use mathlib.Core.Bool.{Bool, true, false}
use mathlib.Core.List.{List, [], ◌∷◌}
use native.Mathlib.Omega.{arith}
use borrow.Author.Tests.{ltb-true, leb-true, eqb-true, le-leb, lt-ltb, eqb-false, eq-eqb, not-true, ne_eqb}
use lib.Dec.{ltb}
use lib.ListN.{length, replicate}
use Rattle.model.proofs.TestLaws.{below_or, and_true, and_left, and_right, must-true, then_passed, then_skip, not_false, pick_case, or_right}
use Rattle.model.specs.Accepted.{Known, MayDrop}
use Rattle.model.specs.Burst.{is_burst, records_at, carried, record_words, no_burst, burst_words, known_events, events_rule}
use Rattle.model.specs.Device.{zeros, may_drop, takes, set_to_work, burst_length}
use Rattle.model.specs.Program.{word, events}
use Rattle.model.specs.Store.{slot, Store}
use Rattle.model.specs.Test.{must, ◌then◌, in_turn}
use Rattle.model.specs.Types.{Err, Handler, Ok, Record, Refusal}

-- ---- one to four

pub burst_passes : (rs : List Record) → 1 ≤ length rs → length rs ≤ 4 → is_burst rs ≡ true
unfolding is_burst
burst_passes rs l m = and_true (le-leb _ _ l) (le-leb _ _ m)

pub burst-passed : (rs : List Record) → is_burst rs ≡ true → (1 ≤ length rs) × (length rs ≤ 4)
unfolding is_burst
burst-passed rs e = (leb-true _ _ (and_left _ _ e), leb-true _ _ (and_right _ _ e))

-- ---- the events are below E: as 25 asks it, and as 8

pub known_passes : (p : List ℕ) (rs : List Record) → Known p rs → known_events p rs ≡ true
unfolding known_events
known_passes p [] k = refl
known_passes p (r ∷ rs) (a, k) = and_true (lt-ltb _ _ a) (known_passes p rs k)

pub known-passed : (p : List ℕ) (rs : List Record) → known_events p rs ≡ true → Known p rs
unfolding known_events
known-passed p [] e = tt
known-passed p (r ∷ rs) e = (ltb-true _ _ (and_left _ _ e), known-passed p rs (and_right _ _ e))

pub data EventsFound (p : List ℕ) (i : ℕ) (rs : List Record) : Type 0 where
  all_known : Known p rs → events_rule p i rs ≡ Ok tt → EventsFound p i rs
  bad_event : (j : ℕ) → events_rule p i rs ≡ Err (Refusal.NoEvent j) → EventsFound p i rs

pub events-found : (p : List ℕ) (i : ℕ) (rs : List Record) → EventsFound p i rs
unfolding events_rule must in_turn
events-found p i [] = all_known tt refl
events-found p i (r ∷ rs) = by_first (ltb r.event (events p)) refl (events-found p (suc i) rs)
  where
    by_first : (b : Bool) → ltb r.event (events p) ≡ b → EventsFound p (suc i) rs → EventsFound p i (r ∷ rs)
    by_first true e (all_known k f) = all_known (ltb-true _ _ e, k) (then_passed (must-true _ e) f)
    by_first true e (bad_event j f) = bad_event j (then_skip _ (must-true _ e) ∙ f)
    by_first false e rest = bad_event i (ap (λ (b : Bool). must b (Refusal.NoEvent i) then events_rule p (suc i) rs) e)

-- ---- records from words and back

pub carried-length : (ws : List ℕ) (i n : ℕ) → length (records_at ws i n) ≡ n
unfolding records_at
carried-length ws i zero = refl
carried-length ws i (suc n) = ap suc (carried-length ws (suc i) n)

-- what a post carries is what its handler keeps
pub carried_back : (rs : List Record) → length rs ≤ 4 → carried (burst_words rs) (length rs) ≡ rs
unfolding burst_words records_at record_words slot
carried_back [] l = refl
carried_back (a ∷ []) l = refl
carried_back (a ∷ b ∷ []) l = refl
carried_back (a ∷ b ∷ c ∷ []) l = refl
carried_back (a ∷ b ∷ c ∷ d ∷ []) l = refl
carried_back (a ∷ b ∷ c ∷ d ∷ e ∷ rs) l = absurd (omega arith)

-- eight zeros are no burst
zero-at : (ws : List ℕ) (n i : ℕ) → zeros ws n ≡ true → i < n → word ws i ≡ 0
unfolding zeros
zero-at ws zero i e l = absurd (omega arith)
zero-at ws (suc n) i e l =
    below_or i n (λ m. zero-at ws n i (and_left _ _ e) m) (λ m. let same : i ≡ n = omega arith in ap (word ws) same ∙ eqb-true _ _ (and_right _ _ e))

all-zero : (ws : List ℕ) (n : ℕ) → length ws ≡ n → ((i : ℕ) → i < n → word ws i ≡ 0) → ws ≡ replicate n 0
all-zero [] zero l z = refl
all-zero [] (suc n) l z = absurd (omega arith)
all-zero (x ∷ ws) zero l z = absurd (omega arith)
all-zero (x ∷ ws) (suc n) l z =
    let first = z 0 (omega arith) in
    let rest = all-zero ws n (omega arith) (λ i m. z (suc i) (omega arith)) in
    λ i. first i ∷ rest i

pub no_burst_lem : (ws : List ℕ) → length ws ≡ 8 → zeros ws 8 ≡ true → ws ≡ no_burst
no_burst_lem ws l e = all-zero ws 8 l (λ i m. zero-at ws 8 i e m)

-- ---- a handler about to drop

pub may_drop_is : (p : List ℕ) (v : Store) (rs : List Record) → Known p rs → may_drop v ≡ true
    → MayDrop p v.queue_records v.phase v.head v.tail v.begun rs
unfolding may_drop
may_drop_is p v rs known e =
    let rest = and_right _ _ e in
    record {
      known = known;
      full = eqb-true _ _ (and_left _ _ e);
      event_not_begun = eqb-false _ _ (not-true _ (and_left _ _ rest));
      not_committing = eqb-false _ _ (not-true _ (and_right _ _ rest));
    }

pub may_drop_lem : (p : List ℕ) (v : Store) (rs : List Record) → MayDrop p v.queue_records v.phase v.head v.tail v.begun rs → may_drop v ≡ true
unfolding may_drop
may_drop_lem p v rs m =
    and_true (eq-eqb _ _ m.full) (and_true (not_false (ne_eqb _ _ m.event_not_begun)) (not_false (ne_eqb _ _ m.not_committing)))

-- the handler that a post sets to work has as many records as were posted
pub set_to_work_length : (v : Store) (n : ℕ) → takes v n ≡ true → burst_length (set_to_work v n) ≡ n
unfolding takes set_to_work burst_length
set_to_work_length v n e =
    pick_case (λ (h : Handler). burst_length h ≡ n) (λ _. refl) (λ no_room. sym (eqb-true _ _ (and_left _ _ (or_right _ _ no_room e))))
