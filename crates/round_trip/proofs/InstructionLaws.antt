-- Laws of an accepted instruction's line: it is an instruction's and no other's, nothing is wrong in it by itself, the word of its k is a
-- label, a task's name or a number, and its first word is the instruction's. Assumes nothing.
use Prim.Native.Nat.{ℕ, ◌+◌, ◌-◌, ◌<◌}
use mathlib.Core.Bool.{Bool, true, false}
use mathlib.Core.List.{List, ◌++◌, map, map-append}
use mathlib.Core.Path.{◌≡◌, refl, sym, ◌∙◌}
use native.Mathlib.Nat.{add-sub_cancel}
use native.Mathlib.Omega.{arith}
use borrow.Author.Tests.{eqb-true, eq-eqb, ne_eqb, le-leb, lt-leb}
use lib.Dec.{eqb, leb}
use lib.ListN.{get_or, get_or-map}
use Rattle.assembly.specs.Lines.{entry_line, is_body, is_instruction}
use Rattle.assembly.specs.Mistakes.{or_else, mistake_if, bit, operands, words_least, words_most, words_behind, number_only, name_first, number_first, number_second, number_third, kind_mistake, count_mistake, statement_mistake, go_line, opcode_of, operand_of}
use Rattle.assembly.specs.Words.{as_register, first_word}
use Rattle.listing.proofs.ListingLaws.{target_found}
use Rattle.listing.specs.Listing.{task_name, label_name, is_target}
use Rattle.model.proofs.TestLaws.{pick_true, pick-false, and_true, or_right, clash}
use Rattle.model.specs.Program.{bodies, instructions, opcode, field_a, field_b, code, operand, bounds}
use Rattle.model.specs.Test.{pick, ◌and◌, ◌or◌, both, either}
use Rattle.tokens.specs.Tokens.{number, named}
use Rattle.tokens.specs.Uses.{uses_a, uses_b, uses_k, is_jump, go_opcode}
use Rattle.round_trip.specs.Expected.{line, if_used, operand_word, operand_words, label_of, instruction_of}
use Rattle.round_trip.proofs.AcceptedLaws.{Whole}
use Rattle.round_trip.proofs.NameLaws.{task-names, label_names}
use Rattle.round_trip.proofs.OpcodeLaws.{all, all_meet, Coded, second-behind-first, jump_operand, go_operand, go_alone, go_no_jump}
use Rattle.round_trip.proofs.StatementLaws.{sample, sample-number, sample-name, by_samples}

-- ---- Those of a, b and k that are used, one behind the other

abbrev used : Bool → Bool → Bool → ℕ → ℕ → ℕ → List ℕ
used x y z a b k = if_used x a ++ if_used y b ++ if_used z k

module _ (x y z : Bool) (a b k : ℕ) where
  used_first : x ≡ true → get_or (used x y z a b k) 0 0 ≡ a
  unfolding if_used pick
  used_first e = rw e

  used_second : x ≡ true → y ≡ true → get_or (used x y z a b k) 1 0 ≡ b
  unfolding if_used pick
  used_second e f = rw (e, f)

-- k is behind those that are used
used_last : (x y : Bool) (a b k : ℕ) → (y ≡ true → x ≡ true)
    → pick y (get_or (used x y true a b k) 2 0) (pick x (get_or (used x y true a b k) 1 0) (get_or (used x y true a b k) 0 0)) ≡ k
unfolding if_used pick
used_last true true a b k h = refl
used_last true false a b k h = refl
used_last false true a b k h = clash (h refl) refl
used_last false false a b k h = refl

one-sample : (x : Bool) (w : ℕ) → map sample (if_used x w) ≡ if_used x (sample w)
unfolding if_used pick
one-sample true w = refl
one-sample false w = refl

used_samples : (x y z : Bool) (a b k : ℕ) → map sample (used x y z a b k) ≡ used x y z (sample a) (sample b) (sample k)
unfolding if_used pick
used_samples x y z a b k = simp (map-append, one-sample x a, one-sample y b, one-sample z k)

-- what is wrong in an opcode's line with such words: nothing

abbrev operand_sample : ℕ → ℕ
operand_sample op = pick (is_jump op) 65537 (pick (eqb op go_opcode) 65537 1)

abbrev wrong_in : ℕ → ℕ
wrong_in op =
    let ws = used (uses_a op) (uses_b op) (uses_k op) 1 1 (operand_sample op) in
    statement_mistake (line 0 (op + 1) (get_or ws 0 0) (get_or ws 1 0) (get_or ws 2 0))

none-wrong : all (λ op. eqb (wrong_in op) 0) 17 ≡ true
unfolding all uses_a uses_b uses_k is_jump bounds if_used pick both either statement_mistake count_mistake kind_mistake words_behind number_first number_second number_third is_instruction name_first number_only words_least words_most operands bit or_else mistake_if
none-wrong = refl

-- ---- An accepted instruction's line

register : (used : Bool) (word x : ℕ) → x < 16 → (used ≡ true → word ≡ number x) → (used ≡ false → x ≡ 0) → pick used (as_register (word - 1)) 0 ≡ x
unfolding pick as_register
register true word x h f g = omega (arith, f refl)
register false word x h f g = sym (g refl)

module _ {p : List ℕ} (whole : Whole p) (i j : ℕ) (h : i < bodies p) (l : j < instructions p i) where
  abbrev w : ℕ
  w = code p i j

  abbrev k : ℕ
  k = operand p i j

  coded : Coded p i w k
  coded = whole.fields i j h l

  pub is_instruction_lem : is_instruction (instruction_of p i j) ≡ true
  unfolding is_instruction instruction_of
  is_instruction_lem = and_true (le-leb 1 (opcode w + 1) (omega arith)) (le-leb (opcode w + 1) 17 (omega (arith, coded.known)))

  -- no line of another statement
  pub is_none_other : (s : ℕ) → 17 < s → eqb (instruction_of p i j).statement s ≡ false
  unfolding instruction_of
  is_none_other s m = ne_eqb (opcode w + 1) s (omega (arith, coded.known))

  pub is_unnamed : name_first (instruction_of p i j).statement ≡ false
  unfolding name_first instruction_of both
  is_unnamed = let below : leb 20 (opcode w + 1) ≡ false = lt-leb 20 (opcode w + 1) (omega (arith, coded.known)) in rw below

  pub is_no_body : is_body (instruction_of p i j) ≡ false
  unfolding is_body instruction_of both
  is_no_body = let below : leb 21 (opcode w + 1) ≡ false = lt-leb 21 (opcode w + 1) (omega (arith, coded.known)) in rw below

  behind : uses_b (opcode w) ≡ true → uses_a (opcode w) ≡ true
  behind = second-behind-first (opcode w) coded.known

  abbrev a : ℕ
  a = number (field_a w)

  abbrev b : ℕ
  b = number (field_b w)

  pub opcode_is : opcode_of (instruction_of p i j) ≡ opcode w
  unfolding instruction_of
  opcode_is = add-sub_cancel (opcode w) 1

  operand_is : uses_k (opcode w) ≡ true → operand_of (instruction_of p i j) ≡ operand_word (opcode w) k
  unfolding operand_of operand_words instruction_of
  operand_is e = rw (add-sub_cancel (opcode w) 1, e) (used_last (uses_a (opcode w)) (uses_b (opcode w)) a b (operand_word (opcode w) k) behind)

  pub jumps : (is_instruction (instruction_of p i j) and is_jump (opcode_of (instruction_of p i j))) ≡ is_jump (opcode w)
  unfolding both
  jumps = rw (is_instruction_lem, opcode_is)

  pub targets : is_jump (opcode w) ≡ true → is_target p i k (instructions p i) ≡ true
  targets e = target_found p i k j (instructions p i) l (and_true e (eq-eqb k k refl))

  pub goes : (eqb (instruction_of p i j).statement entry_line or eqb (instruction_of p i j).statement go_line) ≡ true → eqb (opcode w) go_opcode ≡ true
  unfolding instruction_of
  goes e = eq-eqb (opcode w) go_opcode (omega (arith, eqb-true (opcode w + 1) go_line (or_right _ _ (is_none_other entry_line (omega arith)) e)))

  -- k's word: a label, a task's name or a number

  pub jump_word : is_jump (opcode w) ≡ true → operand_of (instruction_of p i j) ≡ named (label_name k)
  unfolding operand_word
  jump_word e = operand_is (jump_operand (opcode w) coded.known e) ∙ pick_true _ _ e

  pub go_word : eqb (opcode w) go_opcode ≡ true → operand_of (instruction_of p i j) ≡ named (task_name k)
  unfolding operand_word
  go_word e = operand_is (go_operand (opcode w) coded.known e) ∙ pick-false _ _ (go_no_jump (opcode w) coded.known e) ∙ pick_true _ _ e

  pub number_word : is_jump (opcode w) ≡ false → eqb (opcode w) go_opcode ≡ false → uses_k (opcode w) ≡ true → operand_of (instruction_of p i j) ≡ number k
  unfolding operand_word
  number_word e f g = operand_is g ∙ pick-false _ _ e ∙ pick-false _ _ f

  pub go_first : eqb (opcode w) go_opcode ≡ true → (instruction_of p i j).first ≡ named (task_name k)
  unfolding operand_of instruction_of
  go_first e =
      let (none, nor) = go_alone (opcode w) coded.known e in
      sym (rw add-sub_cancel (pick-false _ _ nor ∙ pick-false _ _ none)) ∙ go_word e

  pub first_word_is : first_word (instruction_of p i j) ≡ w
  unfolding first_word operand_words instruction_of
  first_word_is =
      let op = opcode w in
      let first = used_first (uses_a op) (uses_b op) (uses_k op) a b (operand_word op k) in
      let second = used_second (uses_a op) (uses_b op) (uses_k op) a b (operand_word op k) in
      rw (
        add-sub_cancel op 1,
        register (uses_a op) (get_or (operand_words w k) 0 0) (field_a w) (omega arith) first coded.first_unused,
        register (uses_b op) (get_or (operand_words w k) 1 0) (field_b w) (omega arith) (λ e. second (behind e) e) coded.second_unused,
      )
      (omega arith)

  operand-sample : sample (operand_word (opcode w) k) ≡ operand_sample (opcode w)
  unfolding operand_word pick
  operand-sample = go (is_jump (opcode w)) (eqb (opcode w) go_opcode) refl refl where
    go : (b c : Bool) → is_jump (opcode w) ≡ b → eqb (opcode w) go_opcode ≡ c
        → sample (pick b (named (label_name k)) (pick c (named (task_name k)) (number k))) ≡ pick b 65537 (pick c 65537 1)
    go true c e f = sample-name _ (label_names.is_name k (omega (arith, coded.target_inside e, whole.few i h)))
    go false true e f = sample-name _ (task-names.is_name k (omega (arith, coded.task_inside f, whole.contents)))
    go false false e f = sample-number k coded.operand_fits

  pub none_wrong_in : statement_mistake (instruction_of p i j) ≡ 0
  unfolding operand_words instruction_of sample pick
  none_wrong_in =
      let op = opcode w in
      let ws = operand_words w k in
      let at : (n : ℕ) → sample (get_or ws n 0) ≡ get_or (map sample ws) n 0 = λ n. sym (get_or-map sample ws n 0) in
      by_samples (label_of p i j) (op + 1) _ _ _
      ∙ rw (at 0, at 1, at 2, used_samples (uses_a op) (uses_b op) (uses_k op) a b (operand_word op k), sample-number (field_a w) (omega arith), sample-number (field_b w) (omega arith), operand-sample)
      (eqb-true _ _ (all_meet (λ n. eqb (wrong_in n) 0) 17 op none-wrong (omega (arith, coded.known))))
