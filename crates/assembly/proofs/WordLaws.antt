-- Laws of the program words of lines: how many there are. Assumes nothing.
use Prim.Native.Nat.{ℕ, ◌*◌}
use mathlib.Core.Bool.{Bool, true, false}
use mathlib.Core.List.{List, [], ◌∷◌}
use mathlib.Core.Path.{◌≡◌, refl, ap, ◌∙◌}
use native.Mathlib.Omega.{arith}
use lib.ListN.{length}
use Rattle.model.proofs.TestLaws.{pick_true, pick-false}
use Rattle.text.proofs.TextLaws.{puts_nothing, puts_then}
use Rattle.assembly.proofs.LineLaws.{one-instruction, one-body, not_instruction, not_body}
use Rattle.assembly.specs.Lines.{Line, line_at, body_line, instruction_line, is_body, is_instruction, one}
use Rattle.assembly.specs.Words.{instruction_words, row_words}

pub instruction-length : (room : List ℕ) (n start : ℕ) (l : Line) → length (instruction_words room n start l) ≡ 2 * one instruction_line l
unfolding instruction_words
instruction-length room n start l = go (is_instruction l) refl where
  go : (b : Bool) → is_instruction l ≡ b → length (instruction_words room n start l) ≡ 2 * one instruction_line l
  go true e = ap length (pick_true _ _ e) ∙ omega (arith, one-instruction l e)
  go false e = ap length (pick-false _ _ e) ∙ omega (arith, not_instruction l e)

pub row-length : (room : List ℕ) (n i : ℕ) → length (row_words room n i) ≡ 3 * one body_line (line_at room i)
unfolding row_words
row-length room n i = go (is_body (line_at room i)) refl where
  go : (b : Bool) → is_body (line_at room i) ≡ b → length (row_words room n i) ≡ 3 * one body_line (line_at room i)
  go true e = ap length (pick_true _ _ e) ∙ omega (arith, one-body (line_at room i) e)
  go false e = ap length (pick-false _ _ e) ∙ omega (arith, not_body (line_at room i) e)

-- five words behind a first, one by one
pub five : {m a b c d e a' b' c' d' e' : ℕ} → a ≡ a' → b ≡ b' → c ≡ c' → d ≡ d' → e ≡ e'
    → m ∷ a ∷ b ∷ c ∷ d ∷ e ∷ [] ≡ m ∷ a' ∷ b' ∷ c' ∷ d' ∷ e' ∷ []
five p q r s t = rw (p, q, r, s, t)

pub ruleset putting = (puts_nothing, puts_then)
