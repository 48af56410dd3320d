-- Laws of the first mistake of all: where there is none, the words fit and the check accepts them. Assumes nothing.
use Rattle.model.specs.Types.{Checked, Err, Ok}
use Prim.Native.Nat.{ℕ, suc, ◌≤◌, ◌<◌, min}
use mathlib.Core.Bool.{Bool, true, false}
use mathlib.Core.List.{List}
use mathlib.Core.Logic.{◌≢◌}
use mathlib.Core.Path.{◌≡◌, refl, sym, ap, ◌∙◌}
use native.Mathlib.Omega.{arith}
use borrow.Author.Tests.{eqb-true, eqb-false, eq-eqb, ne_eqb, leb-true, leb-false, ltb-false}
use lib.Dec.{eqb, leb}
use lib.ListN.{length, take, length-take}
use Rattle.assembly.specs.Assembles.{AssemblesLines, Assembles, assemble_mistake}
use Rattle.assembly.specs.Words.{words}
use Rattle.assembly.specs.declared.Mistake.{Mistake}
use Rattle.model.specs.Check.{check}
use Rattle.std.specs.Prelude.{Option, Some, None}
use Rattle.model.proofs.TestLaws.{impossible, pick_true, pick-false}
use Rattle.model.specs.Test.{pick}
use Rattle.text.specs.Puts.{Puts}
use Rattle.tokens.specs.Tokens.{line_count}
use Rattle.assembly.specs.Mistakes.{MistakeNumbers, mistake_at, kind_number, or_else, mistake_if, or_next, text_mistake, of_text, mistake_of, program_length}
use Rattle.assembly.specs.Rules.{size_mistake, row_mistake, operand_mistake, instruction_mistake, instruction_rule, rule_number, explained_by, rule_mistake, lines_mistake}

-- ---- Of two mistakes

pub next_is : (m k : MistakeNumbers) → m.number ≡ 0 → or_next m k ≡ k
unfolding or_next
next_is m k e = pick_true _ _ (eq-eqb _ _ e)

pub first_is : (m k : MistakeNumbers) → m.number ≢ 0 → or_next m k ≡ m
unfolding or_next
first_is m k e = pick-false _ _ (ne_eqb _ _ e)

next-none : (m k : MistakeNumbers) → (or_next m k).number ≡ 0 → k.number ≡ 0
next-none m k e = go (eqb m.number 0) refl where
  go : (b : Bool) → eqb m.number 0 ≡ b → k.number ≡ 0
  go true t = sym (ap (λ (x : MistakeNumbers). x.number) (next_is m k (eqb-true _ _ t))) ∙ e
  go false t = absurd (eqb-false _ _ t (sym (ap (λ (x : MistakeNumbers). x.number) (first_is m k (eqb-false _ _ t))) ∙ e))

else_none : (m n : ℕ) → or_else m n ≡ 0 → n ≡ 0
unfolding or_else
else_none m n e = go (eqb m 0) refl where
  go : (b : Bool) → eqb m 0 ≡ b → n ≡ 0
  go true t = sym (pick_true _ _ t) ∙ e
  go false t = absurd (eqb-false _ _ t (sym (pick-false _ _ t) ∙ e))

none_made : (b : Bool) (k : ℕ) → mistake_if b (suc k) ≡ 0 → b ≡ false
unfolding mistake_if pick
none_made true k e = absurd (omega (arith, e))
none_made false k e = refl

-- ---- Where the lines have no mistake, there is room for the words

text-none : (room : List ℕ) (n : ℕ) → (of_text room n).number ≡ 0 → text_mistake room n ≡ 0
unfolding of_text
text-none room n e = go (eqb (text_mistake room n) 0) refl where
  go : (b : Bool) → eqb (text_mistake room n) 0 ≡ b → text_mistake room n ≡ 0
  go true t = eqb-true _ _ t
  go false t = sym (ap (λ (m : MistakeNumbers). m.number) (pick-false _ _ t)) ∙ e

pub short-enough : (room : List ℕ) (n : ℕ) → (mistake_of room n).number ≡ 0 → program_length room n ≤ 65535
unfolding mistake_of text_mistake
short-enough room n e =
    let none = text-none room n (next-none _ _ (next-none _ _ e)) in
    let short = none_made _ _ (else_none _ _ (else_none _ _ none)) in
    ltb-false 65535 (program_length room n) short

-- ---- Where no rule is broken, the check has accepted

else_some : (m : ℕ) {n : ℕ} → n ≢ 0 → or_else m n ≢ 0
else_some m h e = h (else_none m _ e)

pick_some : (b : Bool) {m n : ℕ} → m ≢ 0 → n ≢ 0 → pick b m n ≢ 0
unfolding pick
pick_some true h k = h
pick_some false h k = k

some_number : (k : ℕ) → suc k ≢ 0
some_number k e = absurd (omega (arith, e))

instruction_some : (m t count : ℕ) (isTask : Bool) (w k : ℕ) → instruction_mistake m t count isTask w k ≢ 0
unfolding instruction_mistake operand_mistake
instruction_some m t count isTask w k =
    else_some _ (else_some _ (else_some _ (else_some _ (else_some _ (else_some _ (else_some _ (some_number 34)))))))

rule_some : (p : List ℕ) (number i j : ℕ) → rule_number p number i j ≢ 0
unfolding rule_number size_mistake row_mistake instruction_rule
rule_some p number i j =
    pick_some (eqb number 3)
    (pick_some (eqb i 1) (some_number 22) (pick_some (eqb i 2) (some_number 23) (pick_some (eqb i 3) (some_number 24) (some_number 25))))
    (pick_some (eqb number 4) (pick_some _ (some_number 27) (some_number 26)) (pick_some (eqb number 5) (instruction_some _ _ _ _ _ _) (some_number 21)))

pub rule-accepted : (room : List ℕ) (n : ℕ) (p : List ℕ) (found : Checked) → (rule_mistake room n p found).number ≡ 0 → found ≡ Ok tt
unfolding rule_mistake explained_by
rule-accepted room n p (Ok _) e = refl
rule-accepted room n p (Err r) e = absurd (rule_some p _ _ _ e)

-- ---- What was put is inside; and how many lines were read

pub put_inside : {t u xs : List ℕ} {m : ℕ} → Puts t 0 u m xs → m ≤ length u
put_inside {t} {u} {xs} {m} puts =
    let same : min m (length u) ≡ length xs = sym (length-take m u) ∙ ap length puts.text in omega (arith, same, puts.ends)

module _ (text : List ℕ) (size : ℕ) (r : Option ℕ) where
  read_case : (b : Bool) → r ≡ pick b (Some (line_count text)) None → (n : ℕ) → r ≡ Some n → (b ≡ true) × (n ≡ line_count text)
  unfolding pick
  read_case true e n h = (refl, cc)
  read_case false e n h = impossible (cc)

  pub read_all : (n : ℕ) → r ≡ pick (leb (line_count text) size) (Some (line_count text)) None → r ≡ Some n → (line_count text ≤ size) × (n ≡ line_count text)
  read_all n e h = let c = read_case _ e n h in (leb-true _ _ c.0, c.1)

  none_case : (b : Bool) → r ≡ pick b (Some (line_count text)) None → r ≡ None → b ≡ false
  unfolding pick
  none_case true e h = impossible (cc)
  none_case false e h = refl

  pub read_none : r ≡ pick (leb (line_count text) size) (Some (line_count text)) None → r ≡ None → size < line_count text
  read_none e h = leb-false _ _ (none_case _ e h)

-- ---- What is promised of an answer

module _ (room : List ℕ) (n : ℕ) (left : List ℕ) where
  pub makes_mistake : (m : Mistake) → mistake_at m.line (kind_number m.kind) ≡ lines_mistake room n → AssemblesLines room n left (Err m)
  makes_mistake m e = record { mistake = e; inside = λ k h. impossible (cc); made = λ k h. impossible (cc); accepted = λ k h. impossible (cc) }

  pub makes_words : (k : ℕ) → mistake_at 0 0 ≡ lines_mistake room n → mistake_at 0 0 ≡ rule_mistake room n (words room n) (check (words room n)) → k ≤ length left → take k left ≡ words room n
      → AssemblesLines room n left (Ok k)
  makes_words k e f inside made =
      record {
        mistake = e;
        inside = λ j h. let same : k ≡ j = cc in rw same at inside;
        made = λ j h. let same : k ≡ j = cc in rw same at made;
        accepted = λ j h. rule-accepted room n (words room n) (check (words room n)) (ap (λ (m : MistakeNumbers). m.number) (sym f));
      }

pub is_long : (text left : List ℕ) (m : Mistake) → mistake_at m.line (kind_number m.kind) ≡ assemble_mistake text → Assembles text left (Err m)
is_long text left m e = record { mistake = e; inside = λ k h. impossible (cc); made = λ k h. impossible (cc); accepted = λ k h. impossible (cc) }
