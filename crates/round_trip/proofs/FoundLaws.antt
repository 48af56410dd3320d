-- Laws of what is found in the lines of a program's text: each task, transaction and label by its name, and no name twice; where a body begins,
-- and how many instructions it has. Assumes nothing.
use Prim.Native.Nat.{ℕ, zero, suc, ◌+◌, ◌-◌, ◌≤◌, ◌<◌}
use mathlib.Core.Bool.{true, false}
use mathlib.Core.List.{List}
use mathlib.Core.Logic.{◌≢◌}
use mathlib.Core.Path.{◌≡◌, refl, ap, subst, ◌∙◌}
use native.Mathlib.Nat.{add-zero, add-suc, add-sub_cancel_left}
use native.Mathlib.Omega.{arith}
use borrow.Author.Tests.{eq-eqb, ne_eqb}
use lib.Dec.{eqb}
use Rattle.assembly.proofs.LineLaws.{lines_step, lines_end}
use Rattle.assembly.specs.Lines.{line_at, lines_at, transaction_line, task_line, event_line, is_body, is_instruction, one, is_of, none, is_named, numbered, transaction_value, label_number, has_label, body_count, body_start}
use Rattle.assembly.specs.Lines.{Line}
use Rattle.listing.proofs.ListingLaws.{number-found}
use Rattle.listing.specs.Listing.{task_name, event_name, transaction_name, label_name, has_number, is_target}
use Rattle.model.proofs.TestLaws.{pick_case, pick_true, pick-false, and_true, and_false, same_or}
use Rattle.model.specs.Program.{tasks, bodies, instructions, transaction}
use Rattle.model.specs.Test.{pick, both}
use Rattle.tokens.specs.Tokens.{named}
use Rattle.round_trip.specs.Expected.{transaction_of, heading_of, instruction_of, label_of}
use Rattle.round_trip.proofs.AcceptedLaws.{Whole}
use Rattle.round_trip.proofs.CountLaws.{task_heading, event_heading, heading_case, heading-body, tasks_above, above_heading}
use Rattle.round_trip.proofs.InstructionLaws.{is_instruction_lem, is_no_body, is_none_other}
use Rattle.round_trip.proofs.LineLaws.{room, size, transaction_at, body_at, code_at, lines_are, body-inside, next-body, transaction-inside, at-transaction, at-blank, at-heading, at-instruction, every}
use Rattle.round_trip.proofs.LookupLaws.{numbered-none, numbered_is, value_is, label_missed, label_is, count_is}
use Rattle.round_trip.proofs.NameLaws.{task-names, event-names, transaction-names, label_names}

module _ {p : List ℕ} (whole : Whole p) where
  -- ---- names: what no transaction and no body above line x has, no line above it has

  is_named_lem : (s name : ℕ) (l : Line) → l.statement ≡ s → l.first ≡ name → is_named s name l ≡ true
  unfolding is_named
  is_named_lem s name l e f = and_true (eq-eqb _ _ e) (eq-eqb _ _ f)

  other_statement : (s name : ℕ) (l : Line) → eqb l.statement s ≡ false → is_named s name l ≡ false
  unfolding is_named both
  other_statement s name l e = rw e

  other_name : (s name : ℕ) (l : Line) → l.first ≢ name → is_named s name l ≡ false
  unfolding is_named
  other_name s name l e = and_false _ _ (ne_eqb _ _ e)

  named_above : (s name x : ℕ) → 19 < s → x ≤ size p
      → ((m : ℕ) → m < 255 → transaction_at p m < x → is_named s name (transaction_of (suc m)) ≡ false)
      → ((i : ℕ) → i < bodies p → suc (body_at p i) < x → is_named s name (heading_of p i) ≡ false)
      → (y : ℕ) → y < x → is_named s name (line_at (room p) y) ≡ false
  named_above s name x h inside transactions headings y l =
      every p (λ z g. z < x → is_named s name g ≡ false)
      (record {
        memory = λ _. other_statement s name _ (ne_eqb 18 s (omega arith));
        entry = λ _. other_statement s name _ (ne_eqb 19 s (omega arith));
        transaction = λ m k has u. transactions m k u;
        empty = λ i k u. other_statement s name _ (ne_eqb 0 s (omega arith));
        heading = headings;
        instruction = λ i j k m u. other_statement s name _ (is_none_other whole i j k m s (omega arith));
      })
      y (omega arith) l

  apart : (f : ℕ → ℕ) (k m : ℕ) → f k < f m → k ≢ m
  apart f k m l e = absurd (omega (arith, ap f e))

  transaction_new : (m : ℕ) → m < 255 → (y : ℕ) → y < transaction_at p m
      → is_named transaction_line (named (transaction_name (suc m))) (line_at (room p) y) ≡ false
  unfolding is_named both
  transaction_new m h =
      named_above transaction_line (named (transaction_name (suc m))) (transaction_at p m) (omega arith)
      (omega (arith, transaction-inside p m (omega arith), lines_are p))
      (λ k l u.
      other_name transaction_line _ (transaction_of (suc k))
      (transaction-names.differ (suc k) (suc m) (omega arith) (omega arith) (λ e. apart (transaction_at p) k m u (omega (arith, e)))))
      (λ i l u. heading_case p i (λ g. is_named transaction_line (named (transaction_name (suc m))) g ≡ false) (λ _. refl) (λ _. refl))

  module _ (i : ℕ) (h : i < bodies p) where
    heading-inside : suc (body_at p i) < size p
    heading-inside = omega (arith, body-inside p i h, next-body p i, lines_are p)

    task_new : i < tasks p → (y : ℕ) → y < suc (body_at p i) → is_named task_line (named (task_name i)) (line_at (room p) y) ≡ false
    unfolding is_named both
    task_new task =
        let c = whole.contents in
        named_above task_line (named (task_name i)) (suc (body_at p i)) (omega arith) (omega (arith, heading-inside)) (λ k l u. refl)
        (λ k l u.
        heading_case p k (λ g. is_named task_line (named (task_name i)) g ≡ false)
        (λ other. other_name task_line _ (task_heading p k) (task-names.differ k i (omega arith) (omega arith) (apart (body_at p) k i (omega arith))))
        (λ _. refl))

    event_new : tasks p ≤ i → (y : ℕ) → y < suc (body_at p i) → is_named event_line (named (event_name (i - tasks p))) (line_at (room p) y) ≡ false
    unfolding is_named both
    event_new event =
        let c = whole.contents in
        named_above event_line (named (event_name (i - tasks p))) (suc (body_at p i)) (omega arith) (omega (arith, heading-inside)) (λ k l u. refl)
        (λ k l u.
        heading_case p k (λ g. is_named event_line (named (event_name (i - tasks p))) g ≡ false) (λ _. refl)
        (λ other.
        other_name event_line _ (event_heading p k)
        (event-names.differ (k - tasks p) (i - tasks p) (omega arith) (omega arith) (λ e. apart (body_at p) k i (omega arith) (omega (arith, e))))))

  -- each is found by its name

  pub task-found : (i : ℕ) → i < tasks p → numbered task_line (named (task_name i)) (lines_at (room p) 0 (size p)) 0 ≡ i
  task-found i h =
      let body : i < bodies p = omega arith in
      numbered_is (room p) task_line (named (task_name i)) (size p) (suc (body_at p i)) (heading-inside i body) (task_new i body h)
      (rw (at-heading p i body)
      (heading_case p i (λ g. is_named task_line (named (task_name i)) g ≡ true) (λ _. is_named_lem task_line _ (task_heading p i) refl refl) (λ event. absurd (omega arith))))
      ∙ above_heading (tasks_above whole) i (omega arith)
      ∙ omega arith

  transaction-found : (m : ℕ) → m < 255 → has_number p (suc m) (tasks p) ≡ true
      → transaction_value (named (transaction_name (suc m))) (lines_at (room p) 0 (size p)) ≡ suc m
  transaction-found m h has =
      let line = at-transaction p m h has in
      value_is (room p) (named (transaction_name (suc m))) (size p) (transaction_at p m) (omega (arith, transaction-inside p m (omega arith), lines_are p))
      (transaction_new m h) (rw line (is_named_lem transaction_line _ (transaction_of (suc m)) refl refl))
      ∙ rw line (omega arith)

  pub task-number-found : (i : ℕ) → i < tasks p → transaction p i ≢ 0
      → transaction_value (named (transaction_name (transaction p i))) (lines_at (room p) 0 (size p)) ≡ transaction p i
  task-number-found i h some =
      go (transaction p i) some (whole.task_number i h) (number-found p (transaction p i) i (tasks p) h (eq-eqb (transaction p i) _ refl)) where
        go : (t : ℕ) → t ≢ 0 → t ≤ 255 → has_number p t (tasks p) ≡ true → transaction_value (named (transaction_name t)) (lines_at (room p) 0 (size p)) ≡ t
        go zero other l has = absurd (other refl)
        go (suc m) other l has = transaction-found m l has

  -- and none twice

  pub transaction-first : (m : ℕ) → m < 255 → numbered transaction_line (named (transaction_name (suc m))) (lines_at (room p) 0 (transaction_at p m)) 0 ≡ none
  transaction-first m h = numbered-none (room p) transaction_line _ (transaction_at p m) (transaction_new m h)

  module _ (i : ℕ) (h : i < bodies p) where
    pub task-first : i < tasks p → numbered task_line (named (task_name i)) (lines_at (room p) 0 (suc (body_at p i))) 0 ≡ none
    task-first task = numbered-none (room p) task_line _ (suc (body_at p i)) (task_new i h task)

    pub event-first : tasks p ≤ i → numbered event_line (named (event_name (i - tasks p))) (lines_at (room p) 0 (suc (body_at p i))) 0 ≡ none
    event-first event = numbered-none (room p) event_line _ (suc (body_at p i)) (event_new i h event)

    -- ---- in a body

    in_code : (Q : ℕ → Type 0) (j : ℕ) → ((m : ℕ) → m < j → Q (code_at p i + m)) → (y : ℕ) → code_at p i ≤ y → y < code_at p i + j → Q y
    in_code Q j each y l u =
        let place : code_at p i + (y - code_at p i) ≡ y = omega arith in
        subst Q place (each (y - code_at p i) (omega arith))

    code_inside : code_at p i + instructions p i < size p
    code_inside = omega (arith, body-inside p i h, next-body p i, lines_are p)

    abbrev Code : ℕ → Type 0
    Code y = (is_body (line_at (room p) y) ≡ false) × (is_instruction (line_at (room p) y) ≡ true)

    is_code : (m : ℕ) → m < instructions p i → Code (code_at p i + m)
    is_code m l = rw (at-instruction p i m h l) (is_no_body whole i m h l, is_instruction_lem whole i m h l)

    pub body-start : (j : ℕ) → j ≤ instructions p i → body_start (room p) (code_at p i + j) ≡ code_at p i
    unfolding body_start
    body-start zero l = rw add-zero (pick_true _ _ (rw (at-heading p i h) (heading-body p i)))
    body-start (suc j) l = rw (add-suc (code_at p i) j) (pick-false _ _ (is_code j l).0 ∙ body-start j (omega arith))

    -- no instruction above has its label
    label_new : (k : ℕ) → k < instructions p i → (y : ℕ) → code_at p i ≤ y → y < code_at p i + k → eqb (line_at (room p) y).label (named (label_name k)) ≡ false
    unfolding instruction_of label_of
    label_new k l =
        in_code (λ y. eqb (line_at (room p) y).label (named (label_name k)) ≡ false) k
        (λ m u.
        rw (at-instruction p i m h (omega arith))
        (pick_case (λ v. eqb v (named (label_name k)) ≡ false)
        (λ _. ne_eqb _ _ (label_names.differ m k (omega (arith, whole.few i h)) (omega (arith, whole.few i h)) (λ e. absurd (omega arith))))
        (λ _. ne_eqb 0 (named (label_name k)) (omega arith))))

    pub label_first : (j : ℕ) → j < instructions p i → has_label (named (label_name j)) (lines_at (room p) (code_at p i) (code_at p i + j - code_at p i)) ≡ false
    label_first j l = label_missed (room p) _ (code_at p i) (code_at p i + j) (omega arith) (label_new j l)

    pub label_found : (k : ℕ) → k < instructions p i → is_target p i k (instructions p i) ≡ true
        → label_number (named (label_name k)) (lines_at (room p) (code_at p i) (size p - code_at p i)) 0 ≡ k
    unfolding instruction_of label_of
    label_found k l target =
        label_is (room p) (size p) (code_at p i) (code_at p i + k) (omega arith) (omega (arith, code_inside))
        (in_code Code k (λ m u. is_code m (omega arith)))
        _ (label_new k l) (is_code k l).0 (rw (at-instruction p i k h l) (eq-eqb _ _ (pick_true _ _ target)))
        ∙ add-sub_cancel_left (code_at p i) k

    -- behind its instructions and an empty line comes the next body, or nothing
    body-ends : (m : ℕ) → body_count (lines_at (room p) (suc (body_at p (suc i))) (size p - suc (body_at p (suc i)))) m ≡ m
    unfolding body_count
    body-ends m =
        same_or (suc i) (bodies p)
        (λ same. rw (lines_end (room p) (size p) (suc (body_at p (suc i))) (omega (arith, lines_are p, ap (body_at p) same))))
        (λ other.
        let more : suc i < bodies p = omega (arith, other) in
        rw (lines_step (room p) (size p) (suc (body_at p (suc i))) (heading-inside (suc i) more))
        (pick_true _ _ (rw (at-heading p (suc i) more) (heading-body p (suc i)))))

    pub body-count : body_count (lines_at (room p) (code_at p i) (size p - code_at p i)) 0 ≡ instructions p i
    unfolding body_count is_body one is_of is_instruction both pick
    body-count =
        count_is (room p) (size p) (code_at p i) (code_at p i + instructions p i) (omega arith) code_inside
        (in_code Code (instructions p i) is_code)
        ∙ rw (← next-body p i, at-blank p (suc i) h) (body-ends _ ∙ omega (arith, next-body p i))
