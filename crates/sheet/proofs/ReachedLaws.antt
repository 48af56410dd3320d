-- What holds of a store and a device that a list of calls on the fresh store has reached, from demand 3: one call more reaches again,
-- recovery isn't refused and ends, and the contents are sound. Assumes nothing.
use Rattle.std.specs.Prelude.{Ok}
use Prim.Native.Nat.{ℕ, suc, ◌-◌, ◌+◌, ◌≤◌}
use mathlib.Core.List.{List, [], ◌∷◌, ◌++◌}
use mathlib.Core.Path.{◌≡◌, refl, sym, ap, ◌∙◌, subst}
use native.Mathlib.Nat.{sub-zero, le_refl}
use native.Mathlib.Omega.{arith}
use borrow.Author.Tests.{eq-eqb}
use lib.ListN.{length, replicate, length-replicate}
use Rattle.device.specs.Result.{Result, StepPerforms}
use Rattle.device.specs.declared.CallResult.{CallResult}
use Rattle.model.proofs.CallLaws.{after_append, recovery_by_calls}
use Rattle.model.proofs.Demand3.{demand3}
use Rattle.model.proofs.Fresh.{contents, format-passed}
use Rattle.model.proofs.Passed.{store-passed}
use Rattle.model.proofs.ProgramLaws.{check-passed}
use Rattle.model.proofs.StoreLaws.{rule-kept}
use Rattle.model.proofs.TestLaws.{must-true, then_passed}
use Rattle.model.specs.Accepted.{Shaped}
use Rattle.model.specs.Calls.{Call, Boot, Now, call, after_calls, steps, recovered, recovery}
use Rattle.model.specs.Check.{check}
use Rattle.model.specs.Demand3.{AsSerialRun, recovery_steps}
use Rattle.model.specs.Device.{off}
use Rattle.model.specs.Program.{word, memory_words}
use Rattle.model.specs.Store.{Write, none, to, memory_at, view, settled, formatted, format_check, format, sizes_rule, store_length, store_contents, store_rule}
use Rattle.model.specs.Test.{both}
use Rattle.model.specs.declared.Device.{Device}
use Rattle.model.specs.declared.Refusal.{Refusal}
use Rattle.sheet.specs.Printed.{Reached, RecoveryIsPrinted}
use Rattle.sheet.specs.Sheet.{memory_left, recovered_memory}

-- ---- the fresh store of a program that the check accepts

blank : List ℕ → List ℕ
blank p = replicate (store_length (memory_words p) 1 1) 0

blank_fits : (p : List ℕ) → check p ≡ Ok tt → format_check p 1 1 (blank p) ≡ Ok tt
unfolding blank format_check sizes_rule both
blank_fits p e =
    then_passed e (then_passed (must-true Refusal.StoreSize refl) (must-true Refusal.StoreContents (eq-eqb _ _ (length-replicate (store_length (memory_words p) 1 1) 0))))

pub fresh-reached : (p : List ℕ) → check p ≡ Ok tt → Reached p (formatted p 1 1) off
unfolding after_calls
fresh-reached p e = record { accepted = e; calls = []; store = refl; device = refl }

pub fresh-format : (p : List ℕ) → check p ≡ Ok tt → (s : List ℕ) → length s ≡ store_length (memory_words p) 1 1 → format p 1 1 s ≡ formatted p 1 1
unfolding format_check sizes_rule both
fresh-format p e s l =
    (format-passed p 1 1 s (then_passed e (then_passed (must-true Refusal.StoreSize refl) (must-true Refusal.StoreContents (eq-eqb _ _ l))))).store_is

pub fresh-length : (p : List ℕ) → check p ≡ Ok tt → length (formatted p 1 1) ≡ store_length (memory_words p) 1 1
unfolding sizes_rule both formatted store_contents
fresh-length p e =
    let sound = check-passed p e in
    let shape = store-passed p (formatted p 1 1) sound.rows.contents (contents p sound 1 1 refl) in
    shape.shaped.length_is

as_serial : (p : List ℕ) → check p ≡ Ok tt → (cs : List Call) → AsSerialRun p 1 1 (formatted p 1 1) cs
as_serial p e cs =
    subst (λ (s : List ℕ). AsSerialRun p 1 1 s cs) (format-passed p 1 1 (blank p) (blank_fits p e)).store_is (demand3 p 1 1 (blank p) (blank_fits p e) cs)

-- ---- what was reached

-- 6 doesn't come up
rule-settled : (p s : List ℕ) (w : Write) → store_rule p (settled s w) ≡ store_rule p s
unfolding settled
rule-settled p s none = refl
rule-settled p s (to w x) = rule-kept p s w x

rule_after : (p s : List ℕ) (d : Device) (cs : List Call) → store_rule p (after_calls p s d cs).store ≡ store_rule p s
unfolding after_calls
rule_after p s d [] = refl
rule_after p s d (c ∷ cs) =
    rule_after p (settled s (call p s d c).write) (call p s d c).device cs ∙ rule-settled p s (call p s d c).write

module _ (p s : List ℕ) (d : Device) (h : Reached p s d) where
  reached-rule : store_rule p s ≡ Ok tt
  unfolding sizes_rule both
  reached-rule =
      subst (λ (x : List ℕ). store_rule p x ≡ Ok tt) h.store
      (rule_after p (formatted p 1 1) off h.calls ∙ contents p (check-passed p h.accepted) 1 1 refl)

  reached_shape : (cs : List Call) (e : Device) → Shaped (after_calls p s e cs).store
  reached_shape cs e = (store-passed p _ (check-passed p h.accepted).rows.contents (rule_after p s e cs ∙ reached-rule)).shaped

  abbrev reached_now : Now
  reached_now = after_calls p (formatted p 1 1) off h.calls

  -- one call more
  pub reached-next : (c : Call) → Reached p (settled s (call p s d c).write) (call p s d c).device
  unfolding after_calls
  reached-next c =
      let behind = after_append p (formatted p 1 1) off h.calls (c ∷ []) in
      let o : Now → Now = λ x. after_calls p x.store x.device (c ∷ []) in
      let here : o reached_now ≡ o (record { store = s; device = d }) =
      ap (λ (x : List ℕ). o (record { store = x; device = reached_now.device })) h.store ∙ ap (λ (x : Device). o (record { store = s; device = x })) h.device in
      record {
        accepted = h.accepted;
        calls = h.calls ++ (c ∷ []);
        store = ap (λ (x : Now). x.store) (behind ∙ here);
        device = ap (λ (x : Now). x.device) (behind ∙ here);
      }

  -- recovery
  reached-recovers : (z : List ℕ) × (recovery p (recovery_steps (view s)) s ≡ recovered (recovery_steps (view s)) z)
  reached-recovers =
      let found = (as_serial p h.accepted h.calls).recovers (recovery_steps (view reached_now.store)) (le_refl _) in
      (found.store, subst (λ (x : List ℕ). recovery p (recovery_steps (view x)) x ≡ recovered (recovery_steps (view x)) found.store) h.store found.ends)

  by_steps : recovered_memory p s ≡ (view (after_calls p s off (Boot ∷ steps (recovery_steps (view s)))).store).memory
  unfolding recovered_memory memory_left
  by_steps =
      let (z, ends) = reached-recovers in
      ap memory_left ends
      ∙ sym (ap (λ (x : List ℕ). (view x).memory) (recovery_by_calls p s (recovery_steps (view s)) (recovery_steps (view s)) z ends).leaves)

  -- a copy after these steps: its contents, and its memory
  pub reached_copy : (z : List ℕ) → z ≡ (after_calls p s off (Boot ∷ steps (recovery_steps (view s)))).store
      → (word z 1 ≤ 1024) × (word z 5 ≡ memory_at) × (memory_at + word z 1 ≤ length z) × ((view z).memory ≡ recovered_memory p s)
  reached_copy z e =
      let shape = subst Shaped (sym e) (reached_shape (Boot ∷ steps (recovery_steps (view s))) off) in
      (shape.most_memory, shape.memory_start, omega (arith, shape.length_is), ap (λ (x : List ℕ). (view x).memory) e ∙ sym by_steps)

pub recovery_is_printed : RecoveryIsPrinted
unfolding recovered_memory memory_left
recovery_is_printed p s d h = let (z, ends) = reached-recovers p s d h in (z, ends, ap memory_left ends)

-- ---- steps that are left

pub steps_all : (p s : List ℕ) (d : Device) (n : ℕ) → after_calls p s d (steps (n - 0)) ≡ after_calls p s d (steps n)
steps_all p s d n = ap (λ (k : ℕ). after_calls p s d (steps k)) (sub-zero n)

pub steps-none : (p s : List ℕ) (d : Device) (n : ℕ) → n ≡ 0 → record { store = s; device = d } ≡ after_calls p s d (steps n)
unfolding after_calls steps
steps-none p s d n e = rw e

-- one is made
pub steps-left : (p s : List ℕ) (d : Device) (n k : ℕ) {r : CallResult} {z : List ℕ} → n ≡ suc k → StepPerforms p s d r z
    → after_calls p z r.device (steps k) ≡ after_calls p s d (steps n)
unfolding after_calls steps call
steps-left p s d n k {r} {z} e h =
    ap (λ (x : Result). after_calls p x.store x.device (steps k)) h ∙ ap (λ (m : ℕ). after_calls p s d (steps m)) (sym e)
