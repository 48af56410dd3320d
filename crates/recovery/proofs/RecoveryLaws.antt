-- Laws of recovery: its steps one by one, as the loop goes. Assumes nothing.
use Rattle.model.specs.Types.{Err, Ok, Option, Result}
use Prim.Native.Nat.{ℕ, zero, suc, ◌+◌, ◌-◌}
use mathlib.Core.List.{List}
use mathlib.Core.Logic.{◌≢◌}
use mathlib.Core.Path.{◌≡◌, sym, ap, ◌∙◌}
use native.Mathlib.Numerals.{unary_clauses}
use borrow.Author.Tests.{eq-eqb, ne_eqb}
use Rattle.device.specs.Result.{Result as CallEnd, StepPerforms, BootPerforms}
use Rattle.device.specs.declared.CallResult.{CallResult}
use Rattle.model.proofs.TestLaws.{pick_true, pick-false}
use Rattle.model.specs.Calls.{recovered, refused, unfinished, finish, recovery}
use Rattle.model.specs.Device.{step, boot, cut, fresh, off}
use Rattle.model.specs.Program.{word}
use Rattle.model.specs.declared.Device.{Device}
use Rattle.model.specs.declared.Refusal.{Refusal}
use Rattle.recovery.specs.Recovers.{recovery_of}
use Rattle.runtime.proofs.Runs.{refusal_of, stops, goes}
use Rattle.std.specs.Prelude.{IsErrAnd}
use Rattle.std.proofs.Common.{rules}

-- what `?` hands on of a refusal
pub refused-on : (x : Result (Option ℕ) Refusal) (f : Refusal) (s : List ℕ) → IsErrAnd x (λ g. g ≡ f) → recovery_of x s ≡ refused f
refused-on (Err g) f s e = search rules
refused-on (Ok o) f s e = search rules

-- ---- steps while the phase isn't 0

pub finish-none : (p : List ℕ) (fuel n : ℕ) (s : List ℕ) (d : Device) → word s 8 ≡ 0 → finish p fuel n s d ≡ recovered n s
unfolding finish
finish-none p zero n s d e = pick_true _ _ (eq-eqb _ _ e)
finish-none p (suc fuel) n s d e = pick_true _ _ (eq-eqb _ _ e)

pub finish_spent : (p : List ℕ) (k n : ℕ) (s : List ℕ) (d : Device) → k ≡ 0 → word s 8 ≢ 0 → finish p k n s d ≡ unfinished
unfolding finish
finish_spent p k n s d z e = ap (λ (j : ℕ). finish p j n s d) z ∙ pick-false _ _ (ne_eqb _ _ e)

pub finish-all : (p : List ℕ) (k : ℕ) (s : List ℕ) (d : Device) → finish p (k - 0) 0 s d ≡ finish p k 0 s d
finish-all p k s d = simp unary_clauses

-- a step of `fuel` and one more, by its answer
pub finish_stops : (p : List ℕ) (k fuel n : ℕ) (s : List ℕ) (d : Device) {x : CallResult} {z : List ℕ} {f : Refusal} → k ≡ suc fuel → word s 8 ≢ 0
    → StepPerforms p s d x z → refusal_of x.answer ≡ Err f → finish p k n s d ≡ refused f
unfolding finish
finish_stops p k fuel n s d e some left r =
    ap (λ (j : ℕ). finish p j n s d) e
    ∙ pick-false _ _ (ne_eqb _ _ some)
    ∙ (stops (step p s d).answer refused _ (ap (λ (y : CallEnd). refusal_of y.answer) (sym left) ∙ r)).1

pub finish_goes : (p : List ℕ) (k fuel n : ℕ) (s : List ℕ) (d : Device) {x : CallResult} {z : List ℕ} → k ≡ suc fuel → word s 8 ≢ 0
    → StepPerforms p s d x z → refusal_of x.answer ≡ Ok tt → finish p k n s d ≡ finish p fuel (n + 1) z x.device
unfolding finish
finish_goes p k fuel n s d e some left r =
    ap (λ (j : ℕ). finish p j n s d) e
    ∙ pick-false _ _ (ne_eqb _ _ some)
    ∙ goes (step p s d).answer refused _ (ap (λ (y : CallEnd). refusal_of y.answer) (sym left) ∙ r)
    ∙ ap (λ (y : CallEnd). finish p fuel (n + 1) y.store y.device) (sym left)

-- ---- the boot

pub recovery_stops : (p s : List ℕ) (allowed : ℕ) {x : CallResult} {f : Refusal} → BootPerforms p s off x → refusal_of x.answer ≡ Err f
    → recovery p allowed s ≡ refused f
unfolding recovery cut fresh
recovery_stops p s allowed left r = (stops (boot p s off).answer refused _ (ap (λ (y : CallEnd). refusal_of y.answer) (sym left) ∙ r)).1

pub recovery_goes : (p s : List ℕ) (allowed : ℕ) {x : CallResult} → BootPerforms p s off x → refusal_of x.answer ≡ Ok tt
    → recovery p allowed s ≡ finish p allowed 0 s x.device
unfolding recovery cut fresh
recovery_goes p s allowed left r =
    goes (boot p s off).answer refused _ (ap (λ (y : CallEnd). refusal_of y.answer) (sym left) ∙ r)
    ∙ ap (λ (y : CallEnd). finish p allowed 0 s y.device) (sym left)
