-- What an accepted program check gives, by the names of specs/Accepted.antt: the sizes, each row, each instruction's effect. Demand 3
-- rests on these. Assumes nothing.
use Prim.Native.Nat.{ℕ, zero, suc, ◌+◌, ◌-◌, ◌*◌, ◌≤◌, ◌<◌}
use mathlib.Core.Path.{◌≡◌, refl, sym, ap, ◌∙◌}
use mathlib.Core.Bool.{Bool, true, false}
use mathlib.Core.List.{List, [], ◌∷◌}
use native.Mathlib.Nat.{not-suc-le-zero, add-zero, add-suc, suc-add, zero-add}
use native.Mathlib.Omega.{arith}
use lib.Dec.{ltb, eqb}
use lib.ListN.{get_or}
use borrow.Author.Tests.{ltb-true, ltb-false, leb-true, eqb-true, eq-eqb, le-leb, eqb-false}
use Rattle.model.proofs.TestLaws.{pick_case, pick_true, clash, and_left, and_right, must-true, must-passed, must_then, then_passed, then_first, then_rest, each-passed}
use Rattle.model.specs.Accepted.{Contents, RowsInside, HasRow, UsableRow, HasBody, Bodies, LegalEffect, Sound}
use Rattle.model.specs.Check.{contents_rule, rows_inside_rule, limits, due, row_rule, rows, row_usable, fields_fit, last_one_fits, instruction_rule, body_rule, check}
use Rattle.model.specs.Program.{tasks, memory_words, total, bodies, start, instructions, bodies_start, opcode, field_a, field_b, code, operand, Bounds, bounds_table, bounds, may_be_last, instruction_table, decode, effect, effect_at, less, reg}
use Rattle.model.specs.Test.{pick}
use Rattle.model.specs.Types.{Instruction, Ok}

-- ---- the table of contents

pub contents-passed : (p : List ℕ) → contents_rule p ≡ Ok tt → Contents p
unfolding contents_rule
contents-passed p e =
    let (six, e1) = must_then _ _ _ e in
    let (whole, e2) = must_then _ _ _ e1 in
    let (mark, e3) = must_then _ _ _ e2 in
    let (some_task, e4) = must_then _ _ _ e3 in
    let (most_tasks, e5) = must_then _ _ _ e4 in
    let (most_events, e6) = must_then _ _ _ e5 in
    let (some_memory, e7) = must_then _ _ _ e6 in
    let (most_memory, e8) = must_then _ _ _ e7 in
    record {
      six = leb-true _ _ six;
      length_is = eqb-true _ _ whole;
      some_task = leb-true _ _ some_task;
      most_tasks = leb-true _ _ most_tasks;
      most_events = leb-true _ _ most_events;
      some_memory = leb-true _ _ some_memory;
      most_memory = leb-true _ _ most_memory;
      entry_is = ltb-true _ _ (must-passed _ _ e8);
    }

-- ---- a row

pub inside-passed : (p : List ℕ) → Contents p → rows_inside_rule p ≡ Ok tt → RowsInside p
unfolding rows_inside_rule
inside-passed p c e =
    let fits : bodies_start p ≤ total p = leb-true _ _ (must-passed _ _ e) in
    record { contents = c; inside = omega arith }

pub row-passed : (p : List ℕ) (i : ℕ) → row_usable p i ≡ Ok tt → UsableRow p i
unfolding row_usable limits
row-passed p i e =
    let (some, l1) = must_then _ _ _ (then_first _ _ e) in
    let (most, l2) = must_then _ _ _ l1 in
    let (behind, e1) = must_then _ _ _ (then_rest _ _ e) in
    record {
      some_instruction = leb-true _ _ some;
      most_instructions = leb-true _ _ most;
      behind = leb-true _ _ behind;
      inside = leb-true _ _ (must-passed _ _ e1);
    }

pub used_passed : (p : List ℕ) (i : ℕ) → HasRow p i → row_usable p i ≡ Ok tt → HasBody p i
used_passed p i h e = record { row = h; usable = row-passed p i e }

-- ---- the rows together: each body starts where it is due, so it ends where the next is due, at most at the total

pub due-first : (p : List ℕ) {i : ℕ} → i ≡ 0 → due p i ≡ bodies_start p
unfolding due
due-first p e = rw e

pub due-next : (p : List ℕ) (j : ℕ) {i : ℕ} → i ≡ suc j → due p i ≡ start p j + 2 * instructions p j
unfolding due
due-next p j e = rw e

module _ (p : List ℕ) (passed : rows p ≡ Ok tt) where
  row_is : (i : ℕ) → i < bodies p → row_rule p i ≡ Ok tt
  unfolding rows
  row_is i h = rw zero-add at (each-passed (row_rule p) 0 (bodies p) i (then_first _ _ (then_rest _ _ passed)) h)

  start-due : (i : ℕ) → i < bodies p → start p i ≡ due p i
  unfolding row_rule
  start-due i h = eqb-true _ _ (must-passed _ _ (then_first _ _ (row_is i h)))

  ends-at-total : due p (bodies p) ≡ total p
  unfolding rows
  ends-at-total = eqb-true _ _ (must-passed _ _ (then_rest _ _ (then_rest _ _ passed)))

  due-behind : (i : ℕ) → i ≤ bodies p → bodies_start p ≤ due p i
  due-behind zero h = omega (arith, due-first p {i = 0} refl)
  due-behind (suc i) h = omega (arith, due-behind i (omega arith), start-due i h, due-next p i {i = suc i} refl)

  -- with k bodies from i on
  due-inside : (k i : ℕ) → i + k ≡ bodies p → due p i ≤ total p
  due-inside zero i e = omega (arith, ends-at-total, ap (due p) (sym (add-zero i) ∙ e))
  due-inside (suc k) i e = omega (arith, due-inside k (suc i) (omega arith), start-due i (omega arith), due-next p i {i = suc i} refl)

  row_used : (i : ℕ) → i < bodies p → row_usable p i ≡ Ok tt
  unfolding row_rule row_usable
  row_used i h =
      let lo : bodies_start p ≤ start p i = omega (arith, due-behind i (omega arith), start-due i h) in
      let hi : start p i + 2 * instructions p i ≤ total p =
      omega (arith, due-next p i {i = suc i} refl, due-inside (bodies p - suc i) (suc i) (omega arith)) in
      then_passed (then_rest _ _ (row_is i h)) (then_passed (must-true _ (le-leb _ _ lo)) (must-true _ (le-leb _ _ hi)))

pub rows-passed : (p : List ℕ) → Contents p → rows p ≡ Ok tt → Bodies p
unfolding rows
rows-passed p c e =
    let inside = inside-passed p c (then_first _ _ e) in
    record { rows = inside; body = λ i h. used_passed p i (record { rows = inside; body = h }) (row_used p e i h) }

-- ---- the instructions

-- Two tables of one length, read at one place: what holds of each row, and of the defaults past the end, holds of what is read.
module _ {A B : Type 0} (P : ℕ → A → B → Type 0) where
  abbrev pub Rows : ℕ → List A → List B → Type 0
  Rows i [] [] = Unit {0}
  Rows i [] (y ∷ ys) = ⊥
  Rows i (x ∷ xs) [] = ⊥
  Rows i (x ∷ xs) (y ∷ ys) = P i x y × Rows (suc i) xs ys

  in_tables : (n i : ℕ) (xs : List A) (ys : List B) (x₀ : A) (y₀ : B) → Rows i xs ys → ((m : ℕ) → P m x₀ y₀) → P (i + n) (get_or xs n x₀) (get_or ys n y₀)
  in_tables n i [] [] x₀ y₀ rs past = past (i + n)
  in_tables n i [] (y ∷ ys) x₀ y₀ rs past = absurd rs
  in_tables n i (x ∷ xs) [] x₀ y₀ rs past = absurd rs
  in_tables zero i (x ∷ xs) (y ∷ ys) x₀ y₀ rs past = rw add-zero rs.0
  in_tables (suc n) i (x ∷ xs) (y ∷ ys) x₀ y₀ rs past = rw (add-suc i n, ← suc-add i n) (in_tables n (suc i) xs ys x₀ y₀ rs.1 past)

-- one row, and the rows after it
infixr 20 ◌&◌
pub ◌&◌ : {X Y : Type 0} → X → Y → X × Y
◌&◌ x y = (x, y)

-- The opcode table: what holds of each opcode's instruction under its bounds holds of every opcode's; past the table no field will do.
module _ (p : List ℕ) (i a b k : ℕ) (P : ℕ → Instruction → Type 0) where
  abbrev pub Fits : ℕ → Bounds → Instruction → Type 0
  Fits op f x = a < f.a → b < f.b → k < f.k → P op x

  pub by_opcode : Rows Fits 0 (bounds_table (memory_words p) (tasks p) (instructions p i) (ltb i (tasks p))) (instruction_table a b k)
      → (op : ℕ) → Fits op (bounds (memory_words p) (tasks p) (instructions p i) (ltb i (tasks p)) op) (decode op a b k)
  unfolding bounds decode
  by_opcode rs op =
      rw (zero-add op)
      at (in_tables Fits op 0 (bounds_table (memory_words p) (tasks p) (instructions p i) (ltb i (tasks p))) (instruction_table a b k) (record { a = 0; b = 0; k = 0 }) Instruction.Unknown rs
      (λ m x y z. absurd (not-suc-le-zero x)))

module _ (p : List ℕ) (i j a b k : ℕ) (r : List ℕ) (h : j < instructions p i) where
  -- an instruction that isn't the last of its body, if its opcode may not be
  abbrev Leads : ℕ → Instruction → Type 0
  Leads op x = (j + 1 ≡ instructions p i → may_be_last op ≡ true) → LegalEffect p i j (effect x r j)

  inner : (op : ℕ) → may_be_last op ≡ false → (j + 1 ≡ instructions p i → may_be_last op ≡ true) → j + 1 < instructions p i
  inner op e l = go (eqb (j + 1) (instructions p i)) refl
    where
      go : (t : Bool) → eqb (j + 1) (instructions p i) ≡ t → j + 1 < instructions p i
      go true q = clash (l (eqb-true _ _ q)) e
      go false q = let ne : j + 1 ≡ instructions p i → ⊥ = eqb-false _ _ q in omega (arith, ne)

  either : (t : Bool) → k < instructions p i → j + 1 < instructions p i → pick t k (j + 1) < instructions p i
  either t x y = pick_case (λ (n : ℕ). n < instructions p i) (λ _. x) (λ _. y)

  by_task : (t : Bool) → ltb i (tasks p) ≡ t → k < pick t (tasks p) 0 → (k < tasks p) × (i < tasks p)
  unfolding pick
  by_task true e l = (l, ltb-true _ _ e)
  by_task false e l = absurd (not-suc-le-zero l)

  by_event : (t : Bool) → ltb i (tasks p) ≡ t → k < pick t 0 1 → tasks p ≤ i
  unfolding pick
  by_event true e l = absurd (not-suc-le-zero l)
  by_event false e l = ltb-false _ _ e

  leads : (op : ℕ) → Fits p i a b k Leads op (bounds (memory_words p) (tasks p) (instructions p i) (ltb i (tasks p)) op) (decode op a b k)
  unfolding effect may_be_last pick
  leads =
      by_opcode p i a b k Leads
      ((λ x y z l. (x, inner 0 refl l))  -- SET
      & (λ x y z l. (x, inner 1 refl l))  -- MOV
      & (λ x y z l. (x, inner 2 refl l))  -- ADD
      & (λ x y z l. (x, inner 3 refl l))  -- SUB
      & (λ x y z l. (x, inner 4 refl l))  -- AND
      & (λ x y z l. (x, inner 5 refl l))  -- OR
      & (λ x y z l. (x, inner 6 refl l))  -- XOR
      & (λ x y z l. (x, inner 7 refl l))  -- SHR
      & (λ x y z l. (x, inner 8 refl l))  -- LOAD
      & (λ x y z l. inner 9 refl l)  -- SAVE
      & (λ x y z l. (x, inner 10 refl l))  -- LOADX
      & (λ x y z l. inner 11 refl l)  -- SAVEX
      & (λ x y z l. z)  -- JUMP
      & (λ x y z l. either (eqb (reg r a) 0) z (inner 13 refl l))  -- JZ
      & (λ x y z l. either (less (reg r a) (reg r b)) z (inner 14 refl l))  -- JLT
      & (λ x y z l. by_task _ refl z)  -- GO
      & (λ x y z l. by_event _ refl z)  -- DONE
      & tt)

pub instruction_leads : (p : List ℕ) (i j : ℕ) (r : List ℕ) → j < instructions p i → instruction_rule p i j ≡ Ok tt → LegalEffect p i j (effect_at p i j r)
unfolding instruction_rule effect_at fields_fit last_one_fits
instruction_leads p i j r h e =
    let w = code p i j in
    let fits = must-passed _ _ (then_first _ _ e) in
    leads p i j (field_a w) (field_b w) (operand p i j) r h (opcode w) (ltb-true _ _ (and_left _ _ fits))
    (ltb-true _ _ (and_left _ _ (and_right _ _ fits))) (ltb-true _ _ (and_right _ _ (and_right _ _ fits)))
    (λ q. sym (pick_true _ _ (eq-eqb _ _ q)) ∙ must-passed _ _ (then_rest _ _ e))

-- ---- a program that passes the check

pub check-passed : (p : List ℕ) → check p ≡ Ok tt → Sound p
unfolding check rows body_rule
check-passed p e =
    let c = then_first _ _ e in
    let rs = then_first _ _ (then_rest _ _ e) in
    let body : (i : ℕ) → i < bodies p → body_rule p i ≡ (Ok tt) =
    λ i h. rw zero-add at (each-passed (body_rule p) 0 (bodies p) i (then_rest _ _ (then_rest _ _ e)) h) in
    let rule : (i j : ℕ) → i < bodies p → j < instructions p i → instruction_rule p i j ≡ (Ok tt) =
    λ i j h l. rw zero-add at (each-passed (instruction_rule p i) 0 (instructions p i) j (body i h) l) in
    record {
      passed = e;
      head = c;
      inside = then_first _ _ rs;
      rows = inside-passed p (contents-passed p c) (then_first _ _ rs);
      row = row_used p rs;
      some_instruction = λ i h. (row-passed p i (row_used p rs i h)).some_instruction;
      rule = rule;
      legal = λ i j r h l. instruction_leads p i j r l (rule i j h l);
    }
