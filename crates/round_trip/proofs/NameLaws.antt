-- Laws of the names that are printed: the checker computes once that they grow with their numbers, so each is a name and no two are the same.
-- Assumes nothing.
use Prim.Native.Nat.{ℕ, zero, suc, ◌≤◌, ◌<◌}
use mathlib.Core.Bool.{Bool, true}
use mathlib.Core.Logic.{◌≢◌}
use mathlib.Core.Path.{◌≡◌, refl, ap}
use native.Mathlib.Omega.{arith}
use borrow.Author.Tests.{ltb-true, lt-ltb}
use lib.Dec.{ltb}
use Rattle.assembly.specs.Lines.{is_name_word}
use Rattle.listing.specs.Listing.{task_name, event_name, transaction_name, label_name}
use Rattle.model.proofs.TestLaws.{and_left, and_right, below_or, same_or}
use Rattle.model.specs.Test.{pick, ◌and◌, both}
use Rattle.text.specs.Text.{decimal, decimal_of}
use Rattle.tokens.specs.Tokens.{character, spelled, named}

-- f 0 is a name's word, and f grows up to n
growing : (ℕ → ℕ) → ℕ → Bool
growing f zero = is_name_word (f 0)
growing f (suc n) = growing f n and ltb (f n) (f (suc n))

-- the words of n + 1 names, no two the same
pub record Names (f : ℕ → ℕ) (n : ℕ) : Type 0 where
  pub is_name : (i : ℕ) → i ≤ n → is_name_word (f i) ≡ true
  pub differ : (i j : ℕ) → i ≤ n → j ≤ n → i ≢ j → f i ≢ f j

module _ (f : ℕ → ℕ) where
  next : (n : ℕ) → growing f (suc n) ≡ true → (growing f n ≡ true) × (f n < f (suc n))
  unfolding growing
  next n e = (and_left _ _ e, ltb-true _ _ (and_right _ _ e))

  grown : (n i : ℕ) → growing f n ≡ true → i ≤ n → (65536 < f i) × (f i ≤ f n)
  unfolding growing
  grown zero i e h = let same : i ≡ 0 = omega arith in rw same (ltb-true _ _ e, omega arith)
  grown (suc n) i e h =
      let (before, more) = next n e in
      same_or i (suc n)
      (λ same. omega (arith, ap f same, (grown n n before (omega arith)).0))
      (λ other. omega (arith, grown n i before (omega (arith, other))))

  grows : (n i j : ℕ) → growing f n ≡ true → j ≤ n → i < j → f i < f j
  grows zero i j e h l = absurd (omega arith)
  grows (suc n) i j e h l =
      let (before, more) = next n e in
      same_or j (suc n)
      (λ same. omega (arith, ap f same, (grown n i before (omega arith)).1))
      (λ other. grows n i j before (omega (arith, other)) l)

  names : (n : ℕ) → growing f n ≡ true → Names f n
  names n e =
      record {
        is_name = λ i h. lt-ltb 65536 (f i) (grown n i e h).0;
        differ =
            λ i j h k other same.
            below_or i j (λ l. absurd (omega (arith, grows n i j e k l))) (λ l. absurd (omega (arith, grows n j i e h (omega (arith, other)))));
      }

pub task-names : Names (λ i. named (task_name i)) 31
unfolding growing task_name decimal decimal_of spelled character pick both
task-names = names (λ i. named (task_name i)) 31 refl

pub event-names : Names (λ i. named (event_name i)) 15
unfolding growing event_name decimal decimal_of spelled character pick both
event-names = names (λ i. named (event_name i)) 15 refl

pub transaction-names : Names (λ n. named (transaction_name n)) 255
unfolding growing transaction_name decimal decimal_of spelled character pick both
transaction-names = names (λ n. named (transaction_name n)) 255 refl

pub label_names : Names (λ j. named (label_name j)) 255
unfolding growing label_name decimal decimal_of spelled character pick both
label_names = names (λ j. named (label_name j)) 255 refl
