-- Laws of the opcode table: which fields an opcode uses and what each is below. The checker goes through the 17 opcodes once for each law; an
-- accepted instruction's fields follow. Assumes nothing.
use Prim.Native.Nat.{ℕ, zero, suc, ◌≤◌, ◌<◌}
use mathlib.Core.Bool.{Bool, true, false, not}
use mathlib.Core.List.{List}
use mathlib.Core.Path.{◌≡◌, refl, sym, subst, ◌∙◌}
use native.Mathlib.Omega.{arith}
use borrow.Author.Tests.{ltb-true, not-true}
use lib.Dec.{eqb, ltb}
use Rattle.model.proofs.Range.{within}
use Rattle.model.proofs.TestLaws.{pick_true, pick-false, and_left, and_right, same_or, clash}
use Rattle.model.specs.Accepted.{Contents}
use Rattle.model.specs.Check.{fields_fit}
use Rattle.model.specs.Program.{tasks, memory_words, instructions, opcode, field_a, field_b, bounds}
use Rattle.model.specs.Test.{pick, ◌and◌, both}
use Rattle.tokens.specs.Uses.{uses_a, uses_b, uses_k, is_jump, go_opcode}

-- ---- A test of all numbers below n, which the checker computes

unfoldable pub all : (ℕ → Bool) → ℕ → Bool
all f zero = true
all f (suc n) = all f n and f n

pub all_meet : (f : ℕ → Bool) (n i : ℕ) → all f n ≡ true → i < n → f i ≡ true
unfolding all
all_meet f zero i e h = absurd (omega arith)
all_meet f (suc n) i e h =
    same_or i n (λ same. rw same (and_right _ _ e)) (λ other. all_meet f n i (and_left _ _ e) (omega (arith, other)))

-- ---- The bounds, by the fields that are used

abbrev bound : Bool → ℕ
bound used = pick used 8 1

-- k, for a program of m memory words and t tasks and a body of n instructions
abbrev operand_bound : (m t n : ℕ) (isTask : Bool) → ℕ → ℕ
operand_bound m t n isTask op =
    pick (uses_k op)
    (pick (is_jump op) n (pick (eqb op go_opcode) (pick isTask t 0) (pick (eqb op 0) 65536 (pick (eqb op 7) 16 m))))
    (pick (eqb op 16) (pick isTask 0 1) 1)

bounds_are : (m t n : ℕ) (isTask : Bool) (op : ℕ) → op ≤ 16
    → bounds m t n isTask op ≡ record { a = bound (uses_a op); b = bound (uses_b op); k = operand_bound m t n isTask op }
unfolding bounds uses_a uses_b uses_k is_jump pick both
bounds_are m t n isTask op h =
    within (λ op. bounds m t n isTask op ≡ record { a = bound (uses_a op); b = bound (uses_b op); k = operand_bound m t n isTask op }) 0 17 op
    (refl, (refl, (refl, (refl, (refl, (refl, (refl, (refl, (refl, (refl, (refl, (refl, (refl, (refl, (refl, (refl, (refl, tt)))))))))))))))))
    (omega arith) (omega arith)

-- ---- Which fields an opcode uses beside others

-- where the one, there the other
abbrev implies : Bool → Bool → Bool
implies a b = pick a b true

module _ (op : ℕ) (known : op ≤ 16) where
  meets : (f : ℕ → Bool) → all f 17 ≡ true → f op ≡ true
  meets f e = all_meet f 17 op e (omega arith)

  implied : (f g : ℕ → Bool) → all (λ n. implies (f n) (g n)) 17 ≡ true → f op ≡ true → g op ≡ true
  implied f g e h = sym (pick_true _ _ h) ∙ meets (λ n. implies (f n) (g n)) e

  pub second-behind-first : uses_b op ≡ true → uses_a op ≡ true
  unfolding all uses_a uses_b bounds pick both
  second-behind-first = implied uses_b uses_a refl

  pub jump_operand : is_jump op ≡ true → uses_k op ≡ true
  unfolding all uses_k is_jump bounds pick both
  jump_operand = implied is_jump uses_k refl

  pub go_operand : eqb op go_opcode ≡ true → uses_k op ≡ true
  unfolding all uses_k bounds pick both
  go_operand = implied (λ n. eqb n go_opcode) uses_k refl

  pub go_alone : eqb op go_opcode ≡ true → (uses_a op ≡ false) × (uses_b op ≡ false)
  unfolding all uses_a uses_b bounds pick both
  go_alone e = (
    not-true _ (implied (λ n. eqb n go_opcode) (λ n. not (uses_a n)) refl e),
    not-true _ (implied (λ n. eqb n go_opcode) (λ n. not (uses_b n)) refl e),
  )

  pub go_no_jump : eqb op go_opcode ≡ true → is_jump op ≡ false
  unfolding all is_jump pick both
  go_no_jump e = not-true _ (implied (λ n. eqb n go_opcode) (λ n. not (is_jump n)) refl e)

-- ---- What an accepted instruction's fields are

pub record Coded (p : List ℕ) (i w k : ℕ) : Type 0 where
  pub known : opcode w ≤ 16
  pub first_unused : uses_a (opcode w) ≡ false → field_a w ≡ 0
  pub second_unused : uses_b (opcode w) ≡ false → field_b w ≡ 0
  pub operand_unused : uses_k (opcode w) ≡ false → k ≡ 0
  pub operand_fits : k ≤ 65535
  pub target_inside : is_jump (opcode w) ≡ true → k < instructions p i
  pub task_inside : eqb (opcode w) go_opcode ≡ true → k < tasks p

unused : (used : Bool) (x : ℕ) → x < bound used → used ≡ false → x ≡ 0
unfolding pick
unused true x h e = clash refl e
unused false x h e = omega arith

either : (b : Bool) {x y m : ℕ} → x ≤ m → y ≤ m → pick b x y ≤ m
unfolding pick
either true h l = h
either false h l = l

module _ (p : List ℕ) (i w k : ℕ) (contents : Contents p) (few : instructions p i ≤ 256) (known : opcode w ≤ 16) where
  abbrev limit : ℕ
  limit = operand_bound (memory_words p) (tasks p) (instructions p i) (ltb i (tasks p)) (opcode w)

  limit_most : limit ≤ 65536
  limit_most =
      either _
      (either _ (omega arith) (either _ (either _ (omega arith) (omega arith)) (either _ (omega arith) (either _ (omega arith) (omega arith)))))
      (either _ (either _ (omega arith) (omega arith)) (omega arith))

  limit_unused : uses_k (opcode w) ≡ false → limit ≤ 1
  limit_unused e = subst (λ (b : ℕ). b ≤ 1) (sym (pick-false _ _ e)) (either _ (either _ (omega arith) (omega arith)) (omega arith))

  limit_jump : is_jump (opcode w) ≡ true → limit ≡ instructions p i
  limit_jump e = pick_true _ _ (jump_operand (opcode w) known e) ∙ pick_true _ _ e

  limit_go : eqb (opcode w) go_opcode ≡ true → limit ≤ tasks p
  limit_go e =
      subst (λ (b : ℕ). b ≤ tasks p)
      (sym (pick_true _ _ (go_operand (opcode w) known e) ∙ pick-false _ _ (go_no_jump (opcode w) known e) ∙ pick_true _ _ e))
      (either _ (omega arith) (omega arith))

  pub coded : fields_fit (bounds (memory_words p) (tasks p) (instructions p i) (ltb i (tasks p)) (opcode w)) w k ≡ true → Coded p i w k
  unfolding fields_fit
  coded fits =
      let fit = rw (bounds_are (memory_words p) (tasks p) (instructions p i) (ltb i (tasks p)) (opcode w) known) at fits in
      let below : k < limit = ltb-true _ _ (and_right _ _ (and_right _ _ fit)) in
      record {
        known = known;
        first_unused = unused _ _ (ltb-true _ _ (and_left _ _ fit));
        second_unused = unused _ _ (ltb-true _ _ (and_left _ _ (and_right _ _ fit)));
        operand_unused = λ e. omega (arith, limit_unused e);
        operand_fits = omega (arith, limit_most);
        target_inside = λ e. omega (arith, limit_jump e);
        task_inside = λ e. omega (arith, limit_go e);
      }
