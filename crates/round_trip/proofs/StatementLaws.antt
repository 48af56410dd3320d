-- Laws of a line by itself: a statement's mistake depends on which of its words are none, numbers and names, so the checker computes it from
-- samples of these. Assumes nothing.
use Prim.Native.Nat.{ℕ, ◌≤◌}
use mathlib.Core.Bool.{Bool, true, false}
use mathlib.Core.Path.{◌≡◌, refl, sym, ◌∙◌}
use native.Mathlib.Omega.{arith}
use borrow.Author.Tests.{eqb-true, ne_eqb, ltb-true, le-ltb}
use lib.Dec.{eqb}
use Rattle.assembly.proofs.MistakeLaws.{next-counts}
use Rattle.assembly.specs.Lines.{memory_line, entry_line, transaction_line, task_line, event_line, is_instruction, is_name_word}
use Rattle.assembly.specs.Mistakes.{or_else, mistake_if, bit, operands, words_least, words_most, words_behind, number_only, name_first, number_first, number_second, number_third, kind_mistake, count_mistake, statement_mistake, own_mistake}
use Rattle.assembly.specs.Lines.{Line}
use Rattle.model.proofs.TestLaws.{pick_true, pick-false}
use Rattle.model.specs.Test.{pick, both, either}
use Rattle.tokens.specs.Tokens.{number}
use Rattle.round_trip.specs.Expected.{line}

-- none, a number or a name, as the word is
unfoldable pub sample : ℕ → ℕ
sample w = pick (eqb w 0) 0 (pick (is_name_word w) 65537 1)

pub sample-none : sample 0 ≡ 0
unfolding sample pick
sample-none = refl

pub sample-number : (n : ℕ) → n ≤ 65535 → sample (number n) ≡ 1
unfolding sample
sample-number n h = pick-false _ _ (ne_eqb (number n) 0 (omega arith)) ∙ pick-false _ _ (le-ltb 65536 (number n) (omega arith))

pub sample-name : (w : ℕ) → is_name_word w ≡ true → sample w ≡ 65537
unfolding sample
sample-name w e = pick-false _ _ (ne_eqb w 0 (omega (arith, ltb-true 65536 w e))) ∙ pick_true _ _ e

none_alike : (w : ℕ) → eqb w 0 ≡ eqb (sample w) 0
unfolding sample pick
none_alike w = go (eqb w 0) (is_name_word w) refl where
  go : (b c : Bool) → eqb w 0 ≡ b → b ≡ eqb (pick b 0 (pick c 65537 1)) 0
  go true c e = refl
  go false true e = refl
  go false false e = refl

name_alike : (w : ℕ) → is_name_word w ≡ is_name_word (sample w)
unfolding sample pick
name_alike w = go (eqb w 0) (is_name_word w) refl refl where
  go : (b c : Bool) → eqb w 0 ≡ b → is_name_word w ≡ c → c ≡ is_name_word (pick b 0 (pick c 65537 1))
  go true c e f = sym f ∙ le-ltb 65536 w (omega (arith, eqb-true w 0 e))
  go false true e f = refl
  go false false e f = refl

pub by_samples : (label s a b c : ℕ) → statement_mistake (line label s a b c) ≡ statement_mistake (line 0 s (sample a) (sample b) (sample c))
unfolding statement_mistake count_mistake kind_mistake words_behind number_first number_second number_third is_instruction
by_samples label s a b c = rw (none_alike a, none_alike b, none_alike c, name_alike a, name_alike b, name_alike c)

-- ---- The other statements' lines with such words: nothing is wrong in them

pub record Right : Type 0 where
  pub blank : statement_mistake (line 0 0 0 0 0) ≡ 0
  pub memory : statement_mistake (line 0 memory_line 1 0 0) ≡ 0
  pub entry : statement_mistake (line 0 entry_line 65537 0 0) ≡ 0
  pub transaction : statement_mistake (line 0 transaction_line 65537 1 0) ≡ 0
  pub task : statement_mistake (line 0 task_line 65537 0 0) ≡ 0
  pub task_of_lem : statement_mistake (line 0 task_line 65537 65537 0) ≡ 0
  pub event : statement_mistake (line 0 event_line 65537 0 0) ≡ 0

pub right : Right
unfolding statement_mistake count_mistake kind_mistake words_behind number_first number_second number_third is_instruction name_first number_only words_least words_most operands bit or_else mistake_if pick both either
right = record { blank = refl; memory = refl; entry = refl; transaction = refl; task = refl; task_of_lem = refl; event = refl }

pub own_none : (l : Line) → l.wrong ≡ 0 → statement_mistake l ≡ 0 → own_mistake l ≡ 0
unfolding own_mistake
own_none l e f = next-counts _ e ∙ f

-- a line whose words are of these kinds
pub own_right : (s a b : ℕ) {a' b' : ℕ} → sample a ≡ a' → sample b ≡ b' → statement_mistake (line 0 s a' b' 0) ≡ 0 → own_mistake (line 0 s a b 0) ≡ 0
unfolding sample pick
own_right s a b e f g = own_none (line 0 s a b 0) refl (by_samples 0 s a b 0 ∙ rw (e, f) g)
