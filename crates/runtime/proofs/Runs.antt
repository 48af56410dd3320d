-- The laws of a run: a step that is refused ends it and changes nothing, one that isn't leaves the rest of the run. Assumes nothing.
use Rattle.std.specs.Prelude.{is_ok}
use Rattle.model.specs.Types.{Ok, Err, Checked}
use Prim.Native.Nat.{ℕ, suc, ◌+◌, ◌≤◌}
use mathlib.Core.Bool.{true, false}
use mathlib.Core.List.{List}
use mathlib.Core.Path.{◌≡◌, refl, sym, ap, ◌∙◌}
use native.Mathlib.Omega.{arith}
use lib.ListN.{length}
use Rattle.model.proofs.DeviceLaws.{StepOutcome, refused, made, step_outcome}
use Rattle.model.proofs.TestLaws.{clash, impossible}
use Rattle.model.proofs.Refused.{refused_is}
use Rattle.model.specs.Calls.{RunOutcome, Step, call, unless_refused, is_refusal, counted, run_from}
use Rattle.model.specs.Device.{Outcome, refuse, step}
use Rattle.model.specs.Store.{memory_at, settled, stored_word}
use Rattle.model.specs.declared.Answer.{Answer}
use Rattle.model.specs.declared.Device.{Device}
use Rattle.model.specs.declared.Refusal.{Refusal}
use Rattle.model.specs.declared.Totals.{Totals}
use Rattle.totals.proofs.CountLaws.{counted_is}
use Rattle.totals.specs.Counted.{counted_from}

-- ---- is an answer a refusal? did a check pass?

abbrev pub refusal_of : Answer → Checked
refusal_of a = unless_refused a Err (Ok tt)

pub stops {ℓ} : {A : Type ℓ} (a : Answer) {f : Refusal} (stop : Refusal → A) (rest : A) → refusal_of a ≡ Err f → (a ≡ Answer.Refused f) × (unless_refused a stop rest ≡ stop f)
unfolding unless_refused
stops Answer.Done stop rest e = (cc, cc)
stops (Answer.Chosen b) stop rest e = (cc, cc)
stops Answer.Worked stop rest e = (cc, cc)
stops Answer.Stored stop rest e = (cc, cc)
stops (Answer.Committed b) stop rest e = (cc, cc)
stops (Answer.Accepted d) stop rest e = (cc, cc)
stops (Answer.Refused r) stop rest e = (cc, cc)

pub goes {ℓ} : {A : Type ℓ} (a : Answer) (stop : Refusal → A) (rest : A) → refusal_of a ≡ Ok tt → unless_refused a stop rest ≡ rest
unfolding unless_refused
goes Answer.Done stop rest e = refl
goes (Answer.Chosen b) stop rest e = refl
goes Answer.Worked stop rest e = refl
goes Answer.Stored stop rest e = refl
goes (Answer.Committed b) stop rest e = refl
goes (Answer.Accepted d) stop rest e = refl
goes (Answer.Refused r) stop rest e = cc

pub unrefused : (a : Answer) → refusal_of a ≡ Ok tt → is_refusal a ≡ false
unfolding is_refusal
unrefused a = goes a (λ r. true) false

pub accepted : (found : Checked) → is_ok found ≡ true → found ≡ Ok tt
accepted (Ok _) e = refl
accepted (Err r) e = clash e refl

-- ---- a run at its next step, n steps made

abbrev pub ended : ℕ → Checked → List ℕ → Device → Totals → RunOutcome
ended n e s d t = record { steps = n; ended = e; store = s; device = d; totals = t }

pub run_spent : (p : List ℕ) (n : ℕ) (s : List ℕ) (d : Device) (t : Totals) → run_from p 0 n s d t ≡ ended n (Ok tt) s d t
unfolding run_from
run_spent p n s d t = refl

module _ (p : List ℕ) (k j n : ℕ) (s : List ℕ) (d : Device) (t : Totals) (left : k ≡ suc j) where
  abbrev o : Outcome
  o = step p s d

  pub run_stops : {f : Refusal} → refusal_of o.answer ≡ Err f → run_from p k n s d t ≡ ended n (Err f) (settled s o.write) o.device t
  unfolding run_from call settled
  run_stops {f = f} e =
      let h = stops o.answer (λ f. ended n (Err f) s d t) (run_from p j (n + 1) (settled s o.write) o.device (counted t d.handler o)) e in
      let q : o ≡ refuse d f = refused_is p s d Step f h.0 in
      rw left (h.1 ∙ ap (λ (x : Outcome). ended n (Err f) (settled s x.write) x.device t) (sym q))

  pub run_goes : refusal_of o.answer ≡ Ok tt → run_from p k n s d t ≡ run_from p j (n + 1) (settled s o.write) o.device (counted_from t d.handler o.answer (stored_word s o.write))
  unfolding run_from
  run_goes e =
      rw left
      (goes o.answer (λ f. ended n (Err f) s d t) _ e
      ∙ ap (λ (x : Totals). run_from p j (n + 1) (settled s o.write) o.device x) (counted_is s t d.handler o))

-- a step that isn't refused has a store with all control words
pub control-there : (p s : List ℕ) (d : Device) → refusal_of (step p s d).answer ≡ Ok tt → memory_at ≤ length s
unfolding unless_refused
control-there p s d = go (step p s d) (step_outcome p s d)
  where
    go : (o : Outcome) → StepOutcome p s d o → refusal_of o.answer ≡ Ok tt → memory_at ≤ length s
    go o (refused w) e = impossible (cc)
    go o (made early m u) e = omega (arith, early.shaped.shaped.length_is)
