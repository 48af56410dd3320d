-- Laws of the bursts that came in (specs/AllOrNone.antt), for any calls and answers: what one line adds to those of the lines behind it.
-- Assumes nothing.
use Prim.Native.Nat.{ℕ, suc, ◌+◌}
use mathlib.Core.Path.{◌≡◌, refl, sym, ap, ◌∙◌}
use mathlib.Core.Logic.{◌⊎◌, inl, inr}
use mathlib.Core.Bool.{Bool, true, false}
use mathlib.Core.List.{List, [], ◌∷◌, ◌++◌, append_assoc}
use native.Mathlib.Omega.{arith}
use lib.ListN.{length, length-append}
use Rattle.model.proofs.SerialLaws.{Leaves, adds}
use Rattle.model.proofs.TestLaws.{pick_true, pick-false}
use Rattle.model.specs.AllOrNone.{way_after, came_from, joined, AllBursts, committed_event, committed_events, events_of, Gone, was_committed, was_dropped, gone_records, committed_of, dropped_of, AllOrNone}
use Rattle.model.specs.Burst.{is_burst}
use Rattle.model.specs.Calls.{Call, Boot, Step, Cut, Post, Line, count_by, unless_refused, is_accept}
use Rattle.model.specs.Demand3.{is_completion}
use Rattle.model.specs.Test.{pick}
use Rattle.model.specs.Types.{Answer, Body, Record}

-- ---- lengths and events

events-append : (rs ss : List Record) → events_of (rs ++ ss) ≡ events_of rs ++ events_of ss
unfolding events_of
events-append [] ss = refl
events-append (r ∷ rs) ss = ap (λ (es : List ℕ). r.event ∷ es) (events-append rs ss)

pub events-length : (rs : List Record) → length (events_of rs) ≡ length rs
unfolding events_of
events-length [] = refl
events-length (r ∷ rs) = ap suc (events-length rs)

gone-append : (xs ys : List Gone) → (gone_records (xs ++ ys) ≡ gone_records xs ++ gone_records ys)
    × (committed_of (xs ++ ys) ≡ committed_of xs ++ committed_of ys)
    × (dropped_of (xs ++ ys) ≡ dropped_of xs ++ dropped_of ys)
unfolding gone_records committed_of dropped_of
gone-append [] ys = (refl, refl, refl)
gone-append (was_committed r ∷ xs) ys =
    let (a, b, c) = gone-append xs ys in
    (ap (λ (rs : List Record). r ∷ rs) a, ap (λ (rs : List Record). r ∷ rs) b, c)
gone-append (was_dropped r ∷ xs) ys =
    let (a, b, c) = gone-append xs ys in
    (ap (λ (rs : List Record). r ∷ rs) a, b, ap (λ (rs : List Record). r ∷ rs) c)

-- each of those that left was committed or dropped
pub gone-length : (xs : List Gone) → length (gone_records xs) ≡ length (committed_of xs) + length (dropped_of xs)
unfolding gone_records committed_of dropped_of
gone-length [] = refl
gone-length (was_committed r ∷ xs) = let e = gone-length xs in omega arith
gone-length (was_dropped r ∷ xs) = let e = gone-length xs in omega arith

committed-one : (a : Answer) (n : ℕ) → length (committed_event a) + n ≡ pick (is_completion a) (suc n) n
unfolding committed_event is_completion pick
committed-one Answer.Done n = omega arith
committed-one (Answer.Chosen b) n = omega arith
committed-one Answer.Worked n = omega arith
committed-one Answer.Stored n = omega arith
committed-one (Answer.Committed (Body.Task t)) n = omega arith
committed-one (Answer.Committed (Body.Event e)) n = omega arith
committed-one (Answer.Accepted d) n = omega arith
committed-one (Answer.Refused r) n = omega arith

pub committed-length : (lines : List Line) → length (committed_events lines) ≡ count_by is_completion lines
unfolding committed_events count_by
committed-length [] = refl
committed-length (line ∷ lines) =
    length-append (committed_event line.answered) (committed_events lines)
    ∙ committed-one line.answered (length (committed_events lines))
    ∙ ap (λ (n : ℕ). pick (is_completion line.answered) (suc n) n) (committed-length lines)

-- ---- one line, and those behind it

module _ (rs : List Record) (c : Call) (a : Answer) (lines : List Line) where
  abbrev later : List (List Record)
  later = came_from (way_after rs c a) lines

  joined_line : joined (pick (is_accept a) (rs ∷ later) later) ≡ adds a rs ++ joined later
  unfolding adds pick joined
  joined_line = by_test (is_accept a)
    where
      by_test : (b : Bool) → joined (pick b (rs ∷ later) later) ≡ pick b rs [] ++ joined later
      by_test true = refl
      by_test false = refl

  pub came_bursts : (is_accept a ≡ true → is_burst rs ≡ true) → AllBursts later → AllBursts (pick (is_accept a) (rs ∷ later) later)
  unfolding pick
  came_bursts f rest = by_test (is_accept a) refl
    where
      by_test : (b : Bool) → is_accept a ≡ b → AllBursts (pick b (rs ∷ later) later)
      by_test true e = (f e, rest)
      by_test false e = rest

  pub came_length : {n : ℕ} → n ≡ length (joined later) → length (adds a rs) + n ≡ length (joined (pick (is_accept a) (rs ∷ later) later))
  came_length e = ap (λ (n : ℕ). length (adds a rs) + n) e ∙ sym (length-append (adds a rs) (joined later)) ∙ ap length (sym joined_line)

  pub came_leaves : (x w y : List Record) (es fs : List ℕ) (ds fewer : List Record) → Leaves (x ++ adds a rs) w es ds → Leaves (w ++ joined later) y fs fewer
      → Leaves (x ++ joined (pick (is_accept a) (rs ∷ later) later)) y (es ++ fs) (ds ++ fewer)
  came_leaves x w y es fs ds fewer first rest =
      let both = gone-append first.gone rest.gone in
      record {
        gone = first.gone ++ rest.gone;
        is =
            ap (λ (ss : List Record). x ++ ss) joined_line
            ∙ sym (append_assoc x (adds a rs) (joined later))
            ∙ ap (λ (ss : List Record). ss ++ joined later) first.is
            ∙ append_assoc (gone_records first.gone) w (joined later)
            ∙ ap (λ (ss : List Record). gone_records first.gone ++ ss) rest.is
            ∙ sym (append_assoc (gone_records first.gone) (gone_records rest.gone) y)
            ∙ ap (λ (ss : List Record). ss ++ y) (sym both.0);
        events_are =
            ap events_of both.1 ∙ events-append (committed_of first.gone) (committed_of rest.gone) ∙ (λ i. first.events_are i ++ rest.events_are i);
        dropped_are = both.2 ∙ (λ i. first.dropped_are i ++ rest.dropped_are i);
      }

-- ---- of one burst: all or none

-- a call leaves the burst on its way, or what is on its way behind it doesn't depend on that
abbrev Stays : List Record → List Record → List Record → Type 0
Stays rs after without = ((after ≡ rs) × (without ≡ [])) ⊎ (after ≡ without)

unless_stays : (rs new : List Record) (a : Answer) → Stays rs (unless_refused a (λ r. rs) new) (unless_refused a (λ r. []) new)
unfolding unless_refused
unless_stays rs new Answer.Done = inr refl
unless_stays rs new (Answer.Chosen b) = inr refl
unless_stays rs new Answer.Worked = inr refl
unless_stays rs new Answer.Stored = inr refl
unless_stays rs new (Answer.Committed b) = inr refl
unless_stays rs new (Answer.Accepted d) = inr refl
unless_stays rs new (Answer.Refused r) = inl (refl, refl)

way_stays : (rs : List Record) (c : Call) (a : Answer) → is_accept a ≡ false → Stays rs (way_after rs c a) (way_after [] c a)
unfolding way_after
way_stays rs Boot a e = unless_stays rs [] a
way_stays rs Step a e = inl (pick-false [] rs e, pick-false [] [] e)
way_stays rs Cut a e = inr refl
way_stays rs (Post new) a e = unless_stays rs new a

pub all_or_none : AllOrNone
unfolding came_from
all_or_none rs [] = inr refl
all_or_none rs (line ∷ lines) = by_answer (is_accept line.answered) refl (all_or_none rs lines)
  where
    a : Answer
    a = line.answered

    Either : List (List Record) → List (List Record) → Type 0
    Either came without = ((later : List (List Record)) × (came ≡ rs ∷ later)) ⊎ (came ≡ without)

    by_way : Stays rs (way_after rs line.called a) (way_after [] line.called a) → Either (came_from rs lines) (came_from [] lines)
        → Either (came_from (way_after rs line.called a) lines) (came_from (way_after [] line.called a) lines)
    by_way (inl (same, none)) rest = rw (same, none) rest
    by_way (inr same) rest = inr (ap (λ (ss : List Record). came_from ss lines) same)

    by_answer : (b : Bool) → is_accept a ≡ b → Either (came_from rs lines) (came_from [] lines) → Either (came_from rs (line ∷ lines)) (came_from [] (line ∷ lines))
    by_answer true e rest = inl (came_from (way_after rs line.called a) lines, pick_true _ _ e)
    by_answer false e rest =
        let goes : (ss : List Record) → came_from ss (line ∷ lines) ≡ came_from (way_after ss line.called a) lines = λ ss. pick-false _ _ e in
        rw (goes rs, goes []) (by_way (way_stays rs line.called a e) rest)
