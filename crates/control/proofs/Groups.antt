-- The rules of 7 in the groups that the code goes through, as the checks in a row that they are. Assumes nothing.
use Prim.Native.Nat.{ℕ, ◌+◌, ◌<◌, ◌≤◌}
use native.Mathlib.Omega.{arith}
use mathlib.Core.List.{List, [], ◌∷◌, ◌++◌}
use mathlib.Core.Path.{◌≡◌, sym, ap, ◌∙◌}
use Rattle.model.specs.Control.{Rule, up_to, obey, obey_all, phase_rule, task_rule, open_rule, pending_open_rule, head_rule, tail_rule, begun_rule, begun_event_rule, control_rules, rules, early_rules}
use Rattle.model.specs.Store.{Store}
use Rattle.model.specs.Test.{◌then◌}
use Rattle.model.specs.Types.{Checked, Err, Ok}
use Rattle.model.specs.declared.Refusal.{Refusal}
use Rattle.model.proofs.TestLaws.{then_accepted}
use Rattle.model.proofs.Passed.{early_are}
use Rattle.model.proofs.RuleLaws.{obey_all-append, none-asked, one_more, stopped}
use Rattle.control.specs.Groups.{commit_rules, address_rules, record_rules}

module _ (p : List ℕ) (v : Store) {r : Checked} where
  pub all_in_groups : r ≡ (obey (phase_rule v)
      then (obey (task_rule p v)
      then (obey (open_rule p v)
      then (obey_all (commit_rules p v)
      then (obey (pending_open_rule p v)
      then (obey (head_rule v)
      then (obey (tail_rule v)
      then (obey (begun_rule v) then (obey (begun_event_rule v) then (obey_all (address_rules p v) then obey_all (record_rules p v)))))))))))
      → r ≡ obey_all (rules p v)
  unfolding obey_all rules control_rules
  all_in_groups e = e ∙
      ap (λ (c : Checked). obey (phase_rule v) then obey (task_rule p v) then obey (open_rule p v) then c)
      (ap (λ (c : Checked). obey_all (commit_rules p v) then obey (pending_open_rule p v) then obey (head_rule v) then obey (tail_rule v) then obey (begun_rule v) then obey (begun_event_rule v) then c)
      (sym (obey_all-append (address_rules p v) (record_rules p v)))
      ∙ sym (obey_all-append (commit_rules p v) (pending_open_rule p v ∷ head_rule v ∷ tail_rule v ∷ begun_rule v ∷ begun_event_rule v ∷ address_rules p v ++ record_rules p v)))

  pub early_in_groups : r ≡ (obey (phase_rule v)
      then (obey (task_rule p v)
      then (obey_all (commit_rules p v)
      then (obey (head_rule v) then (obey (tail_rule v) then (obey (begun_rule v) then obey (begun_event_rule v)))))))
      → r ≡ obey_all (early_rules p v)
  unfolding obey_all
  early_in_groups e = e ∙
      ap (λ (c : Checked). obey (phase_rule v) then obey (task_rule p v) then c)
      (ap (λ (c : Checked). obey_all (commit_rules p v) then c)
      (ap (λ (c : Checked). obey (head_rule v) then obey (tail_rule v) then obey (begun_rule v) then c) (sym (then_accepted (obey (begun_event_rule v)))))
      ∙ sym (obey_all-append (commit_rules p v) (head_rule v ∷ tail_rule v ∷ begun_rule v ∷ begun_event_rule v ∷ [])))
      ∙ sym (ap obey_all (early_are p v))

-- a loop through the rules f 0, f 1, .. that has come to rule i of n
module _ (f : ℕ → Rule) where
  pub none_asked : obey_all (up_to f 0) ≡ Ok tt
  none_asked = none-asked f

  pub rules_stop : (n i : ℕ) {r : Checked} {g : Refusal} → i < n → obey_all (up_to f i) ≡ Ok tt → r ≡ obey (f i) → r ≡ Err g → r ≡ obey_all (up_to f n)
  rules_stop n i l h e t = t ∙ sym (stopped f n i l h (sym e ∙ t))

  pub rules_go : (i : ℕ) {r : Checked} → obey_all (up_to f i) ≡ Ok tt → r ≡ obey (f i) → r ≡ Ok tt → obey_all (up_to f (i + 1)) ≡ Ok tt
  rules_go i h e t = one_more f i h (sym e ∙ t)

  pub rules_end : (n i : ℕ) → i ≤ n → n ≤ i → obey_all (up_to f i) ≡ Ok tt → Ok tt ≡ obey_all (up_to f n)
  rules_end n i l m h = let e : i ≡ n = omega arith in sym (rw e at h)

pub ruleset by_rules = (none_asked, rules_stop, rules_go, rules_end)
