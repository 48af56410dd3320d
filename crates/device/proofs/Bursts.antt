-- Laws of a burst as the code goes through it: event by event, and word by word. Assumes nothing.
use Rattle.model.specs.declared.Record.{Record}
use Rattle.std.specs.Prelude.{is_ok}
use Rattle.model.specs.Types.{Ok, Err}
use Prim.Native.Nat.{ℕ, zero, suc, ◌+◌, ◌-◌, ◌*◌, ◌≤◌, ◌<◌}
use mathlib.Core.Bool.{Bool, true, false, not}
use mathlib.Core.List.{List, [], ◌∷◌}
use mathlib.Core.Logic.{◌≢◌}
use mathlib.Core.Path.{◌≡◌, refl, sym, ap, ◌∙◌}
use native.Mathlib.Omega.{arith}
use borrow.Author.Tests.{lt-ltb, le-ltb, le-leb, lt-leb, eq-eqb, ne_eqb}
use lib.Dec.{ltb, leb, eqb}
use lib.ListN.{length}
use Rattle.model.proofs.TestLaws.{pick_true, pick-false, below_or, then_first, then_rest, then_skip, must-passed, must-true}
use Rattle.model.proofs.BurstLaws.{burst-passed, carried-length}
use Rattle.model.proofs.Passed.{look-passed}
use Rattle.model.proofs.RingLaws.{record_stores_lem}
use Rattle.model.specs.Accepted.{Shaped}
use Rattle.model.specs.Burst.{is_burst, records_at, carried, record_words, burst_words, known_events, events_rule}
use Rattle.model.specs.Device.{fits, records_sound, may_drop, takes, post_check, set_to_work}
use Rattle.model.specs.Program.{word, events}
use Rattle.model.specs.Store.{Store, slot, full, room}
use Rattle.model.specs.Test.{pick, ◌and◌, must, ◌then◌, in_turn, both, either}
use Rattle.model.specs.declared.Device.{Device}
use Rattle.model.specs.declared.Handler.TheVariants.{Storing, Dropping}
use Rattle.model.specs.declared.Refusal.{Refusal}

-- ---- 8, from position i of n records on

module _ (p ws : List ℕ) (n i : ℕ) (l : i < n) where
  abbrev rest : List Record
  rest = records_at ws i (n - i)

  one_less : n - i ≡ suc (n - (i + 1))
  one_less = omega arith

  first_is : events_rule p i rest ≡ (must (ltb (word ws (2 * i)) (events p)) (Refusal.NoEvent i) then events_rule p (suc i) (records_at ws (suc i) (n - (i + 1))))
  unfolding events_rule records_at slot
  first_is = ap (λ (k : ℕ). events_rule p i (records_at ws i k)) one_less

  pub event_refused : events p ≤ word ws (2 * i) → Err (Refusal.NoEvent i) ≡ events_rule p i rest
  unfolding must in_turn
  event_refused m = sym (first_is ∙ ap (λ (b : Bool). must b (Refusal.NoEvent i) then events_rule p (suc i) (records_at ws (suc i) (n - (i + 1)))) (le-ltb _ _ m))

  pub event_passed : word ws (2 * i) < events p → events_rule p (i + 1) (records_at ws (i + 1) (n - (i + 1))) ≡ events_rule p i rest
  event_passed m =
      let next : suc i ≡ i + 1 = omega arith in
      sym (first_is
      ∙ then_skip _ (must-true _ (lt-ltb _ _ m))
      ∙ ap (λ (k : ℕ). events_rule p k (records_at ws k (n - (i + 1)))) next)

-- none left
pub events_left : (p ws : List ℕ) (n i : ℕ) → n ≤ i → Ok tt ≡ events_rule p i (records_at ws i (n - i))
unfolding events_rule records_at
events_left p ws n i l = let none : n - i ≡ 0 = omega arith in sym (ap (λ (k : ℕ). events_rule p i (records_at ws i k)) none)

pub ruleset by_event = (event_refused, event_passed, events_left)

-- ---- the same test in 25

pub known_is : (p : List ℕ) (i : ℕ) (rs : List Record) → known_events p rs ≡ is_ok (events_rule p i rs)
unfolding events_rule known_events must in_turn both
known_is p i [] = refl
known_is p i (r ∷ rs) = by_first (ltb r.event (events p)) (known_is p (suc i) rs)
  where
    by_first : (b : Bool) → known_events p rs ≡ is_ok (events_rule p (suc i) rs) → (b and known_events p rs) ≡ is_ok (must b (Refusal.NoEvent i) then events_rule p (suc i) rs)
    by_first true e = e
    by_first false e = refl

-- ---- the words that a handler keeps

pub kept-words : (ws : List ℕ) (n : ℕ) → n ≤ 4
    → pick (ltb 0 n) (word ws 0) 0
    ∷ pick (ltb 0 n) (word ws 1) 0
    ∷ pick (ltb 1 n) (word ws 2) 0
    ∷ pick (ltb 1 n) (word ws 3) 0
    ∷ pick (ltb 2 n) (word ws 4) 0
    ∷ pick (ltb 2 n) (word ws 5) 0
    ∷ pick (ltb 3 n) (word ws 6) 0
    ∷ pick (ltb 3 n) (word ws 7) 0
    ∷ []
    ≡ burst_words (carried ws n)
unfolding burst_words record_words records_at slot pick
kept-words ws zero l = refl
kept-words ws (suc zero) l = refl
kept-words ws (suc (suc zero)) l = refl
kept-words ws (suc (suc (suc zero))) l = refl
kept-words ws (suc (suc (suc (suc zero)))) l = refl
kept-words ws (suc (suc (suc (suc (suc n))))) l = absurd (omega arith)

-- ---- 25 of a handler at work, by the length of its burst

leb-ltb : (a b : ℕ) → leb a b ≡ ltb a (b + 1)
leb-ltb a b =
    below_or a (b + 1) (λ l. let m : a ≤ b = omega arith in le-leb _ _ m ∙ sym (lt-ltb _ _ l))
    (λ l. let m : b < a = omega arith in lt-leb _ _ m ∙ sym (le-ltb _ _ l))

pub sound_by : (p : List ℕ) (v : Store) (c : ℕ) (ws : List ℕ) (n : ℕ) {b : Bool}
    → b ≡ (leb 1 n and leb n 4 and is_ok (events_rule p 0 (carried ws n)) and leb n (room v) and leb c (2 * n))
    → b ≡ records_sound p v c (carried ws n)
unfolding records_sound fits is_burst both
sound_by p v c ws n e =
    let many = carried-length ws 0 n in
    let stores = record_stores_lem v.queue_records (carried ws n) v.tail ∙ ap (λ (k : ℕ). 2 * k + 1) many in
    e ∙ sym (rw (stores, many, leb-ltb c (2 * n), known_is p 0 (carried ws n)) (grouped (leb 1 n) _ _))
  where
    grouped : (a b r : Bool) → ((a and b) and r) ≡ (a and b and r)
    grouped true b r = refl
    grouped false b r = refl

-- ---- may a record be dropped, test by test

pub not_full : (v : Store) → full v ≡ false → false ≡ may_drop v
unfolding may_drop both
not_full v e = sym (rw e)

pub event-begun : (v : Store) → full v ≡ true → v.begun ≡ 2 → false ≡ may_drop v
unfolding may_drop both
event-begun v e two = sym (rw (e, eq-eqb _ _ two))

pub phase-asked : (v : Store) → full v ≡ true → v.begun ≢ 2 → not (eqb v.phase 2) ≡ may_drop v
unfolding may_drop both
phase-asked v e ne = sym (rw (e, ne_eqb _ _ ne))

-- ---- does the queue take so many records, and what is set to work on them

module _ (v : Store) (n : ℕ) where
  pub takes-fits : n ≤ room v → true ≡ takes v n
  unfolding takes fits either
  takes-fits l = sym (rw (le-leb _ _ l))

  pub takes-many : room v < n → n ≢ 1 → false ≡ takes v n
  unfolding takes fits either both
  takes-many l ne = sym (rw (lt-leb _ _ l, ne_eqb _ _ ne))

  pub takes_one : room v < n → n ≡ 1 → may_drop v ≡ takes v n
  unfolding takes fits either both
  takes_one l one = sym (rw (lt-leb _ _ l, eq-eqb _ _ one))

  pub works_storing : n ≤ room v → Storing n 0 ≡ set_to_work v n
  unfolding set_to_work fits
  works_storing l = sym (pick_true _ _ (le-leb _ _ l))

  pub works_dropping : room v < n → Dropping ≡ set_to_work v n
  unfolding set_to_work fits
  works_dropping l = sym (pick-false _ _ (lt-leb _ _ l))

-- ---- a post's checks, by the length of its burst

pub burst_by : (ws : List ℕ) (n : ℕ) → is_burst (carried ws n) ≡ (leb 1 n and leb n 4)
unfolding is_burst
burst_by ws n = rw (carried-length ws 0 n)

pub takes_by : (v : Store) (ws : List ℕ) (n : ℕ) → takes v (length (carried ws n)) ≡ takes v n
takes_by v ws n = ap (takes v) (carried-length ws 0 n)

pub posted_few : (p s : List ℕ) (d : Device) (ws : List ℕ) (n : ℕ) → post_check p s d (carried ws n) ≡ Ok tt → n ≤ 4
unfolding post_check
posted_few p s d ws n e =
    let few = (burst-passed (carried ws n) (must-passed _ _ (then_first _ _ (then_rest _ _ e)))).1 in
    omega (arith, few, carried-length ws 0 n)

-- and what they give bounds the reads behind them
pub posted_ring : (p s : List ℕ) (d : Device) (rs : List Record) → post_check p s d rs ≡ Ok tt
    → Shaped s × ((word s 14 ≤ word s 3) × (word s 15 ≤ word s 3))
unfolding post_check
posted_ring p s d rs e =
    let l = look-passed p s d (then_first _ _ e) in
    (l.shaped.shaped, (l.control.head_in, l.control.tail_in))

-- ---- as sets of rules

pub ruleset dropping = (not_full, event-begun, phase-asked)

pub ruleset taking = (takes-fits, takes-many, takes_one, works_storing, works_dropping)

pub ruleset by_length = (burst_by, takes_by, posted_few, posted_ring)
