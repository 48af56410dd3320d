-- Laws of what is printed of a program: clause by clause, as the loops go through it; a test that one of the first numbers meets. What is put
-- has so many bytes at most. Assumes nothing.
use Prim.Native.Nat.{ℕ, zero, suc, ◌+◌, ◌≤◌, ◌<◌}
use mathlib.Core.Bool.{Bool, true, false}
use mathlib.Core.List.{List, [], ◌++◌, append_assoc}
use mathlib.Core.Path.{◌≡◌, sym, subst, ap, ◌∙◌}
use native.Mathlib.Omega.{arith}
use borrow.Author.Tests.{eq-eqb}
use lib.Dec.{eqb}
use Rattle.text.proofs.TextLaws.{puts_nothing, puts_then, puts_as, decimal-length}
use Rattle.text.specs.Puts.{Puts}
use Rattle.text.specs.Text.{decimal}
use native.Mathlib.Numerals.{add-one}
use lib.ListN.{length, get_or, take, get_or-eq_default}
use Rattle.listing.specs.Listing.{has_number, transaction_line, transaction_lines, is_target, instruction_line, instruction_lines, heading, body_lines, listing}
use Rattle.listing.specs.Lists.{Lists, Printable}
use Rattle.model.specs.Check.{check}
use Rattle.model.specs.Types.{Ok}
use Rattle.model.proofs.ProgramLaws.{used_passed}
use Rattle.model.proofs.Range.{within}
use Rattle.model.proofs.TestLaws.{impossible, same_or, below_or, or_true_left, or_true_right}
use Rattle.model.specs.Accepted.{LegalEffect, Sound}
use Rattle.model.specs.Program.{transaction, instructions, opcode, field_a, field_b, code, operand, instruction_table, decode, effect, effect_at}
use Rattle.model.specs.Test.{◌and◌, either}
use Rattle.model.specs.declared.Instruction.{Instruction}
use Rattle.tokens.specs.Tokens.{statement_names}
use Rattle.tokens.specs.Uses.{is_jump}

-- ---- one of the first m

pub number-found : (p : List ℕ) (n t m : ℕ) → t < m → eqb (transaction p t) n ≡ true → has_number p n m ≡ true
unfolding has_number
number-found p n t zero h e = absurd (omega arith)
number-found p n t (suc m) h e =
    same_or t m
    (λ same. or_true_left _ _ (ap (λ (k : ℕ). eqb (transaction p k) n) (sym same) ∙ e))
    (λ other. or_true_right (eqb (transaction p m) n) _ (number-found p n t m (omega (arith, other)) e))

pub number_there : (p : List ℕ) (n t m : ℕ) → t < m → transaction p t ≡ n → true ≡ has_number p n m
number_there p n t m h e = sym (number-found p n t m h (eq-eqb _ _ e))

pub number_missed : (p : List ℕ) (n t : ℕ) → eqb (transaction p t) n ≡ false → has_number p n t ≡ false → has_number p n (suc t) ≡ false
unfolding has_number either
number_missed p n t e h = rw (e, h)

abbrev jumps_to : List ℕ → ℕ → ℕ → ℕ → Bool
jumps_to p i j n = is_jump (opcode (code p i n)) and eqb (operand p i n) j

pub target_found : (p : List ℕ) (i j n m : ℕ) → n < m → jumps_to p i j n ≡ true → is_target p i j m ≡ true
unfolding is_target
target_found p i j n zero h e = absurd (omega arith)
target_found p i j n (suc m) h e =
    same_or n m
    (λ same. or_true_left _ _ (ap (jumps_to p i j) (sym same) ∙ e))
    (λ other. or_true_right (jumps_to p i j m) _ (target_found p i j n m (omega (arith, other)) e))

pub target_there : (p : List ℕ) (i j n m : ℕ) → n < m → jumps_to p i j n ≡ true → true ≡ is_target p i j m
target_there p i j n m h e = sym (target_found p i j n m h e)

pub target_missed : (p : List ℕ) (i j n : ℕ) → jumps_to p i j n ≡ false → is_target p i j n ≡ false → is_target p i j (suc n) ≡ false
unfolding is_target either
target_missed p i j n e h = rw (e, h)

pub ruleset search_for_number = (number_there, number_missed)

pub ruleset search_for_target = (target_there, target_missed)

-- ---- what is put

-- a number of 16 bits has five digits at most
pub five_digits : (n : ℕ) → n < 65536 → length (decimal n) ≤ 5
five_digits n h = decimal-length 4 n (omega arith)

pub ruleset putting = (puts_nothing, puts_then, five_digits)

-- ---- one line more

module _ {t u v : List ℕ} {n m k : ℕ} (p : List ℕ) where
  pub transactions_more : (c : ℕ) → Puts t n u m (transaction_lines p c) → Puts u m v k (transaction_line p (c + 1)) → Puts t n v k (transaction_lines p (c + 1))
  unfolding transaction_lines
  transactions_more c before next = rw add-one (puts_then before (rw add-one at next))

  pub instructions_more : (i c : ℕ) → Puts t n u m (instruction_lines p i c) → Puts u m v k (instruction_line p i c) → Puts t n v k (instruction_lines p i (c + 1))
  unfolding instruction_lines
  instructions_more i c before next = rw add-one (puts_then before next)

  pub bodies_more : (c : ℕ) → Puts t n u m (body_lines p c) → Puts u m v k (heading p c ++ instruction_lines p c (instructions p c))
      → Puts t n v k (body_lines p (c + 1))
  unfolding body_lines
  bodies_more c before next = rw add-one (puts_as (puts_then before next) (sym (append_assoc (body_lines p c) (heading p c) (instruction_lines p c (instructions p c)))))

pub ruleset one_more = (transactions_more, instructions_more, bodies_more)

-- ---- an opcode's name has five letters at most

pub few_letters : (op : ℕ) → op ≤ 16 → length (get_or statement_names op []) ≤ 5
unfolding statement_names
few_letters op h =
    within (λ (n : ℕ). length (get_or statement_names n []) ≤ 5) 0 17 op
    (omega arith, (omega arith, (omega arith, (omega arith, (omega arith, (omega arith, (omega arith, (omega arith, (omega arith, (omega arith, (omega arith, (omega arith, (omega arith, (omega arith, (omega arith, (omega arith, (omega arith, tt)))))))))))))))))
    (omega arith) (omega arith)

-- ---- a program that the check accepts can be printed

opcode-known : (p : List ℕ) (i j : ℕ) → LegalEffect p i j (effect_at p i j []) → opcode (code p i j) ≤ 16
unfolding effect_at effect decode
opcode-known p i j legal =
    let w = code p i j in
    below_or (opcode w) 17
    (λ known. omega (arith, known))
    (λ past.
    let none = get_or-eq_default (instruction_table (field_a w) (field_b w) (operand p i j)) Instruction.Unknown past in
    absurd (subst (λ (x : Instruction). LegalEffect p i j (effect x [] j)) none legal))

pub sound_printable : (p : List ℕ) → Sound p → Printable p
sound_printable p sound =
    record {
      rows = sound.rows;
      body =
          λ i h.
          record {
            body = used_passed p i (record { rows = sound.rows; body = h }) (sound.row i h);
            known = λ j l. opcode-known p i j (sound.legal i j [] h l);
          };
    }

-- it was printed
pub lists_text : (p text : List ℕ) (n : ℕ) → Ok tt ≡ check p → take n text ≡ listing p → n ≤ 524288 → Lists p text (Ok n)
lists_text p text n accepted printed inside =
    record {
      refused = λ refusal e. impossible (cc);
      accepted = λ end e. sym accepted;
      listed = λ end e. let same : n ≡ end = cc in rw same at printed;
      inside = λ end e. let same : n ≡ end = cc in rw same at inside;
    }
