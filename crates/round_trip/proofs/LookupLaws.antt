-- Laws of what is looked up in lines: a search passes by the lines that aren't it, and counts them. One law says so of every search; the
-- others say what is found, or not, by what the lines before it are. Assumes nothing.
use Prim.Native.Nat.{ℕ, zero, suc, ◌+◌, ◌-◌, ◌≤◌, ◌<◌}
use mathlib.Core.Bool.{true, false}
use mathlib.Core.List.{List, [], ◌∷◌}
use mathlib.Core.Path.{◌≡◌, ◌∙◌}
use native.Mathlib.Nat.{add-zero, zero-add, sub-zero}
use native.Mathlib.Omega.{arith}
use lib.Dec.{eqb}
use Rattle.assembly.proofs.LineLaws.{lines_step, lines_end, one-instruction}
use Rattle.assembly.specs.Lines.{line_at, lines_at, transaction_line, instruction_line, is_body, is_instruction, none, value, one, count_from, count, body_count, is_named, numbered, transaction_value, label_number, has_label}
use Rattle.assembly.specs.Lines.{Line}
use Rattle.model.proofs.TestLaws.{pick_true, pick-false}

-- ---- A search g that passes by the lines that are P, and counts those of a class

module _ {X : Type 0} (g : List Line → ℕ → X) (class : ℕ) (P : Line → Type 0) (step : (l : Line) (ls : List Line) (m : ℕ) → P l → g (l ∷ ls) m ≡ g ls (m + one class l)) (room : List ℕ) where
  passes : (a k r m : ℕ) → ((y : ℕ) → a ≤ y → y < a + k → P (line_at room y))
      → g (lines_at room a (k + r)) m ≡ g (lines_at room (a + k) r) (count_from class (lines_at room a k) m)
  unfolding lines_at count_from
  passes a zero r m h = rw (add-zero, zero-add)
  passes a (suc k) r m h =
      let longer : suc k + r ≡ suc (k + r) = omega arith in
      let along : a + suc k ≡ suc a + k = omega arith in
      rw (longer, along)
      (step (line_at room a) (lines_at room (suc a) (k + r)) m (h a (omega arith) (omega arith))
      ∙ passes (suc a) k r (m + one class (line_at room a)) (λ y l u. h y (omega arith) (omega arith)))

  -- from line a to line x of n, and to the end
  module _ (n a : ℕ) where
    passes_to : (x m : ℕ) → a ≤ x → x ≤ n → ((y : ℕ) → a ≤ y → y < x → P (line_at room y))
        → g (lines_at room a (n - a)) m ≡ g (lines_at room x (n - x)) (count_from class (lines_at room a (x - a)) m)
    passes_to x m h l passed =
        let parts : n - a ≡ (x - a) + (n - x) = omega arith in
        let place : a + (x - a) ≡ x = omega arith in
        rw parts (rw place at (passes a (x - a) (n - x) m (λ y u v. passed y u (omega arith))))

    pub comes_to : (x m : ℕ) → a ≤ x → x < n → ((y : ℕ) → a ≤ y → y < x → P (line_at room y))
        → g (lines_at room a (n - a)) m ≡ g (line_at room x ∷ lines_at room (suc x) (n - suc x)) (count_from class (lines_at room a (x - a)) m)
    comes_to x m h l passed = passes_to x m h (omega arith) passed ∙ rw (lines_step room n x l)

    pub passes_all : (m : ℕ) → a ≤ n → ((y : ℕ) → a ≤ y → y < n → P (line_at room y))
        → g (lines_at room a (n - a)) m ≡ g [] (count_from class (lines_at room a (n - a)) m)
    passes_all m h passed = passes_to n m h (omega arith) passed ∙ rw (lines_end room n n (omega arith))

module _ (room : List ℕ) where
  -- ---- names

  named_step : (statement name : ℕ) (l : Line) (ls : List Line) (m : ℕ) → is_named statement name l ≡ false
      → numbered statement name (l ∷ ls) m ≡ numbered statement name ls (m + one statement l)
  unfolding numbered
  named_step statement name l ls m e = pick-false _ _ e

  pub numbered-none : (statement name x : ℕ) → ((y : ℕ) → y < x → is_named statement name (line_at room y) ≡ false)
      → numbered statement name (lines_at room 0 x) 0 ≡ none
  unfolding numbered
  numbered-none statement name x others =
      rw sub-zero
      at (passes_all (numbered statement name) statement (λ l. is_named statement name l ≡ false) (named_step statement name) room x 0 0 (omega arith)
      (λ y _ h. others y h))

  pub numbered_is : (statement name n x : ℕ) → x < n → ((y : ℕ) → y < x → is_named statement name (line_at room y) ≡ false)
      → is_named statement name (line_at room x) ≡ true → numbered statement name (lines_at room 0 n) 0 ≡ count statement (lines_at room 0 x)
  unfolding numbered
  numbered_is statement name n x h others here =
      (rw (sub-zero n, sub-zero x)
      at (comes_to (numbered statement name) statement (λ l. is_named statement name l ≡ false) (named_step statement name) room n 0 x 0 (omega arith) h
      (λ y _ l. others y l)))
      ∙ pick_true _ _ here

  pub value_is : (name n x : ℕ) → x < n → ((y : ℕ) → y < x → is_named transaction_line name (line_at room y) ≡ false)
      → is_named transaction_line name (line_at room x) ≡ true → transaction_value name (lines_at room 0 n) ≡ value (line_at room x).second
  unfolding transaction_value
  value_is name n x h others here =
      (rw (sub-zero n)
      at (comes_to (λ ls m. transaction_value name ls) 0 (λ l. is_named transaction_line name l ≡ false) (λ l ls m e. pick-false _ _ e) room n 0 x 0 (omega arith) h
      (λ y _ l. others y l)))
      ∙ pick_true _ _ here

  -- ---- in a body: behind line a the lines have no such label, up to line x

  pub label_missed : (name a x : ℕ) → a ≤ x → ((y : ℕ) → a ≤ y → y < x → eqb (line_at room y).label name ≡ false)
      → has_label name (lines_at room a (x - a)) ≡ false
  unfolding has_label
  label_missed name a x h others =
      passes_all (λ ls m. has_label name ls) 0 (λ l. eqb l.label name ≡ false) (λ l ls m e. pick-false _ _ e) room x a 0 h others

  counted : (a k m : ℕ) → ((y : ℕ) → a ≤ y → y < a + k → is_instruction (line_at room y) ≡ true) → count_from instruction_line (lines_at room a k) m ≡ m + k
  unfolding lines_at count_from
  counted a zero m h = omega arith
  counted a (suc k) m h =
      counted (suc a) k (m + one instruction_line (line_at room a)) (λ y l u. h y (omega arith) (omega arith))
      ∙ omega (arith, one-instruction (line_at room a) (h a (omega arith) (omega arith)))

  -- of instructions alone
  module _ (n a x : ℕ) (from : a ≤ x) (to : x < n) (inside : (y : ℕ) → a ≤ y → y < x → (is_body (line_at room y) ≡ false) × (is_instruction (line_at room y) ≡ true)) where
    passed : count_from instruction_line (lines_at room a (x - a)) 0 ≡ x - a
    passed = counted a (x - a) 0 (λ y l u. (inside y l (omega arith)).1) ∙ zero-add (x - a)

    pub label_is : (name : ℕ) → ((y : ℕ) → a ≤ y → y < x → eqb (line_at room y).label name ≡ false) → is_body (line_at room x) ≡ false
        → eqb (line_at room x).label name ≡ true → label_number name (lines_at room a (n - a)) 0 ≡ x - a
    unfolding label_number
    label_is name others code here =
        comes_to (label_number name) instruction_line (λ l. (is_body l ≡ false) × (eqb l.label name ≡ false))
        (λ l ls m e. pick-false _ _ e.0 ∙ pick-false _ _ e.1) room n a x 0 from to (λ y l u. ((inside y l u).0, others y l u))
        ∙ pick-false _ _ code ∙ pick_true _ _ here ∙ passed

    pub count_is : body_count (lines_at room a (n - a)) 0 ≡ body_count (line_at room x ∷ lines_at room (suc x) (n - suc x)) (x - a)
    unfolding body_count
    count_is =
        comes_to body_count instruction_line (λ l. is_body l ≡ false) (λ l ls m e. pick-false _ _ e) room n a x 0 from to (λ y l u. (inside y l u).0)
        ∙ rw passed
