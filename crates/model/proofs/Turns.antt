-- A begun body has its turn, for any list of calls on a fresh store. It cites: Fresh (the start), KeptWords (each call), Demand3 (the serial
-- run of a list). Assumes nothing.
use Prim.Native.Nat.{ℕ, suc, ◌+◌}
use mathlib.Core.Path.{◌≡◌, refl, sym, ap, subst, ◌∙◌}
use mathlib.Core.Bool.{Bool, true, false}
use mathlib.Core.List.{List, [], ◌∷◌, ◌++◌}
use native.Mathlib.Nat.{zero-add}
use native.Mathlib.Omega.{arith}
use lib.ListN.{length}
use Rattle.model.proofs.CallLaws.{after_append}
use Rattle.model.proofs.Demand3.{CallsKept, calls-kept}
use Rattle.model.proofs.Fresh.{Formatted, format-passed, fresh-words, nothing_begun}
use Rattle.model.proofs.KeptWords.{InvWords, call_kept}
use Rattle.model.proofs.TestLaws.{impossible, clash}
use Rattle.model.specs.Accepted.{Sound}
use Rattle.model.specs.Calls.{Call, Step, Line, Now, call, history, after_calls, count_by, is_commit}
use Rattle.model.specs.Demand3.{reached, next_answer}
use Rattle.model.specs.Device.{off, begun_of}
use Rattle.model.specs.Serial.{Serial, given, serial, serial_start}
use Rattle.model.specs.Store.{view, settled, formatted}
use Rattle.model.specs.Test.{pick}
use Rattle.model.specs.Turns.{begun_after, begun_from, begun_by, InTurn, TakesTurns, BodiesTakeTurns, HasItsTurn, BegunHasItsTurn}
use Rattle.model.specs.Types.{Answer, Body, Device, None, Option, Some}

-- ---- a list's answers

history-append : (p s : List ℕ) (d : Device) (cs later : List Call)
    → history p s d (cs ++ later) ≡ history p s d cs ++ history p (after_calls p s d cs).store (after_calls p s d cs).device later
unfolding history after_calls
history-append p s d [] later = refl
history-append p s d (c ∷ cs) later =
    ap (λ (lines : List Line). record { called = c; answered = (call p s d c).answer } ∷ lines)
    (history-append p (settled s (call p s d c).write) (call p s d c).device cs later)

count-append : (holds : Answer → Bool) (lines others : List Line) → count_by holds (lines ++ others) ≡ count_by holds lines + count_by holds others
unfolding count_by pick
count-append holds [] others = sym (zero-add (count_by holds others))
count-append holds (line ∷ lines) others = go (holds line.answered) (count-append holds lines others)
  where
    go : (b : Bool) → count_by holds (lines ++ others) ≡ count_by holds lines + count_by holds others
        → pick b (suc (count_by holds (lines ++ others))) (count_by holds (lines ++ others))
        ≡ pick b (suc (count_by holds lines)) (count_by holds lines) + count_by holds others
    go true e = omega arith
    go false e = e

none-counted : (b : Bool) (n : ℕ) → pick b (suc n) n ≡ 0 → (b ≡ false) × (n ≡ 0)
unfolding pick
none-counted true n e = absurd (omega arith)
none-counted false n e = (refl, e)

-- ---- one call: the begun body stays begun unless it is committed

same-begun : {b c : Body} {g : Option Body} → g ≡ Some b → g ≡ Some c → c ≡ b
same-begun {b = b} {c = c} e f = let h : Some b ≡ Some c = sym e ∙ f in cc

begun_some : {X : Type 0} {b : Body} {g : Option Body} → g ≡ Some b → g ≡ None → X
begun_some e f = impossible (ap (λ (g : Option Body). is_none g) (sym e ∙ f))
  where
    is_none : Option Body → ℕ
    is_none None = 1
    is_none (Some b) = 0

stays_begun : (z : Serial) (g : Option Body) (b : Body) (a : Answer) → g ≡ Some b → InTurn z g a → is_commit a ≡ false → begun_after g a ≡ Some b
unfolding begun_after is_commit
stays_begun z g b Answer.Done e t n = e
stays_begun z g b (Answer.Chosen c) e t n = begun_some e t.0
stays_begun z g b Answer.Worked e t n = e
stays_begun z g b Answer.Stored e t n = e
stays_begun z g b (Answer.Committed c) e t n = clash refl n
stays_begun z g b (Answer.Accepted d) e t n = e
stays_begun z g b (Answer.Refused r) e t n = e

-- ---- a list of calls that begins with the invariant

module _ (p : List ℕ) (sound : Sound p) (l q : ℕ) where
  -- what the store says is begun is what the answers say
  begun_along : (cs : List Call) (s : List ℕ) (d : Device) (z : Serial) (k : ℕ) → InvWords p l q s d z k
      → begun_of (view (after_calls p s d cs).store) ≡ begun_from (begun_of (view s)) (history p s d cs)
  unfolding history after_calls begun_from
  begun_along [] s d z k i = refl
  begun_along (c ∷ cs) s d z k i =
      let o = call p s d c in
      let h = call_kept p sound l q s d z k i c in
      begun_along cs (settled s o.write) o.device h.serial (suc k) h.inv
      ∙ ap (λ (g : Option Body). begun_from g (history p (settled s o.write) o.device cs)) h.begins

  -- without a commit, the begun body stays begun
  begun_through : (cs : List Call) (s : List ℕ) (d : Device) (z : Serial) (k : ℕ) → InvWords p l q s d z k → (b : Body) → begun_of (view s) ≡ Some b
      → count_by is_commit (history p s d cs) ≡ 0 → begun_of (view (after_calls p s d cs).store) ≡ Some b
  unfolding history after_calls count_by
  begun_through [] s d z k i b e n = e
  begun_through (c ∷ cs) s d z k i b e n =
      let o = call p s d c in
      let h = call_kept p sound l q s d z k i c in
      let m = none-counted (is_commit o.answer) _ n in
      begun_through cs (settled s o.write) o.device h.serial (suc k) h.inv b
      (h.begins ∙ stays_begun z (begun_of (view s)) b o.answer e h.turn m.0) m.1

-- ---- on a fresh store

module _ (p : List ℕ) (l q : ℕ) (s : List ℕ) (f : Formatted p l q s) where
  abbrev fresh-store : List ℕ
  fresh-store = formatted p l q

  abbrev start : Serial
  start = serial_start (given p l q)

  kept : (cs : List Call) → CallsKept p l q fresh-store off start 0 cs
  kept cs = calls-kept p f.sound l q cs fresh-store off start 0 (fresh-words p f.sound l q f.sizes)

  begun_is : (cs : List Call) → begun_of (view (reached p fresh-store cs).store) ≡ begun_by (history p fresh-store off cs)
  begun_is cs =
      begun_along p f.sound l q cs fresh-store off start 0 (fresh-words p f.sound l q f.sizes)
      ∙ ap (λ (g : Option Body). begun_from g (history p fresh-store off cs)) (nothing_begun p f.sound l q f.sizes)

  next-turn : (cs : List Call) (c : Call) → InTurn (kept cs).state (begun_by (history p fresh-store off cs)) (next_answer p fresh-store cs c)
  next-turn cs c =
      let now = reached p fresh-store cs in
      subst (λ (g : Option Body). InTurn (kept cs).state g (next_answer p fresh-store cs c)) (begun_is cs)
      (call_kept p f.sound l q now.store now.device (kept cs).state (0 + length cs) (kept cs).inv c).turn

  take-turns : (cs : List Call) → TakesTurns p l q fresh-store cs
  unfolding serial
  take-turns cs = record { state = (kept cs).state; ran = (kept cs).ran (length cs) (omega arith); begun = begun_is cs; turn = next-turn cs }

  module _ (cs later : List Call) (b : Body) (e : begun_by (history p fresh-store off cs) ≡ Some b)
      (n : count_by is_commit (history p fresh-store off (cs ++ later)) ≡ count_by is_commit (history p fresh-store off cs)) where
    abbrev now : Now
    now = reached p fresh-store cs

    none-committed : count_by is_commit (history p now.store now.device later) ≡ 0
    none-committed =
        let more = ap (count_by is_commit) (history-append p fresh-store off cs later) ∙ count-append is_commit (history p fresh-store off cs) _ in
        omega (arith, n, more)

    still_begun : begun_by (history p fresh-store off (cs ++ later)) ≡ Some b
    still_begun =
        sym (begun_is (cs ++ later))
        ∙ ap (λ (x : Now). begun_of (view x.store)) (after_append p fresh-store off cs later)
        ∙ begun_through p f.sound l q later now.store now.device (kept cs).state (0 + length cs) (kept cs).inv b (begun_is cs ∙ e) none-committed

    its_turn : HasItsTurn p fresh-store (cs ++ later) b
    its_turn =
        record {
          begun = still_begun;
          none_chosen =
              λ other a. begun_some still_begun (subst (InTurn (kept (cs ++ later)).state (begun_by (history p fresh-store off (cs ++ later)))) a (next-turn (cs ++ later) Step)).0;
          committed =
              λ next a. same-begun still_begun (subst (InTurn (kept (cs ++ later)).state (begun_by (history p fresh-store off (cs ++ later)))) a (next-turn (cs ++ later) Step));
        }

pub bodies-take-turns : BodiesTakeTurns
bodies-take-turns p l q s e cs = let f = format-passed p l q s e in rw f.store_is (take-turns p l q s f cs)

pub begun_has_its_turn : BegunHasItsTurn
begun_has_its_turn p l q s e cs later b g n =
    let f = format-passed p l q s e in
    rw f.store_is (its_turn p l q s f cs later b (rw f.store_is at g) (rw f.store_is at n))
