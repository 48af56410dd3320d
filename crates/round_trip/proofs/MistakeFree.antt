-- No line of a program's text has a mistake, by itself or among the others: kind of line by kind of line, its names found and none taken.
-- Assumes nothing.
use Prim.Native.Nat.{ℕ, zero, suc, ◌+◌, ◌-◌, ◌≤◌, ◌<◌}
use mathlib.Core.Bool.{true, false}
use mathlib.Core.List.{List}
use mathlib.Core.Logic.{◌≢◌}
use mathlib.Core.Path.{◌≡◌, refl, sym, subst, ◌∙◌}
use native.Mathlib.Omega.{arith}
use borrow.Author.Tests.{eqb-false, eq-eqb, ne_eqb, le-ltb}
use lib.Dec.{eqb, ltb}
use Rattle.assembly.proofs.MistakeLaws.{next-counts, not_made, not_made_first}
use Rattle.assembly.specs.Lines.{line_at, lines_at, memory_line, entry_line, transaction_line, task_line, event_line, is_instruction, is_name_word, none, one, is_of, count_from, numbered, has_label, body_start}
use Rattle.assembly.specs.Mistakes.{mistake_at, own_mistake, name_first, label_mistake, place_mistake, name_mistake, task_word, label_word, transaction_word, missing_task, missing_label, missing_transaction, among_mistake, first_own, first_among}
use Rattle.assembly.specs.Lines.{Line}
use Rattle.assembly.specs.Mistakes.{MistakeNumbers}
use Rattle.listing.specs.Listing.{task_name, transaction_name, label_name, is_target}
use Rattle.model.proofs.TestLaws.{pick_case, pick_true, and_false, clash}
use Rattle.model.specs.Program.{tasks, memory_words, entry, bodies, instructions, transaction, operand}
use Rattle.model.specs.Test.{pick, ◌and◌, ◌or◌, both, either}
use Rattle.tokens.specs.Tokens.{named}
use Rattle.round_trip.specs.Expected.{line, blank, memory_of, entry_of, transaction_of, heading_of, instruction_of, label_of}
use Rattle.round_trip.proofs.AcceptedLaws.{Whole}
use Rattle.round_trip.proofs.CountLaws.{above, task_heading, event_heading, heading_case, events_above, above_heading}
use Rattle.round_trip.proofs.FoundLaws.{task-found, task-number-found, transaction-first, task-first, event-first, body-start, label_first, label_found}
use Rattle.round_trip.proofs.InstructionLaws.{is_instruction_lem, is_unnamed, is_none_other, none_wrong_in, jumps, targets, jump_word, goes, go_first}
use Rattle.round_trip.proofs.LineLaws.{room, size, transaction_at, body_at, code_at, at-memory, at-instruction, every}
use Rattle.round_trip.proofs.NameLaws.{task-names, event-names, transaction-names}
use Rattle.round_trip.proofs.StatementLaws.{sample-none, sample-number, sample-name, right, own_none, own_right}

-- ---- The first of no mistakes

module _ (g : ℕ → ℕ → MistakeNumbers) (f : ℕ → ℕ) (ends : (i : ℕ) → g i 0 ≡ mistake_at 0 0) (step : (i k : ℕ) → f i ≡ 0 → g i (suc k) ≡ g (suc i) k) where
  first-none : (i k : ℕ) → ((y : ℕ) → i ≤ y → y < i + k → f y ≡ 0) → g i k ≡ mistake_at 0 0
  first-none i zero h = ends i
  first-none i (suc k) h = step i k (h i (omega arith) (omega arith)) ∙ first-none (suc i) k (λ y l u. h y (omega arith) (omega arith))

module _ {p : List ℕ} (whole : Whole p) where
  -- ---- by itself

  heading_own : (i : ℕ) → i < bodies p → own_mistake (heading_of p i) ≡ 0
  heading_own i h =
      let c = whole.contents in
      heading_case p i (λ g. own_mistake g ≡ 0)
      (λ task.
      let name = sample-name _ (task-names.is_name i (omega arith)) in
      pick_case (λ w. own_mistake (line 0 task_line (named (task_name i)) w 0) ≡ 0)
      (λ _. own_right task_line _ _ name sample-none right.task)
      (λ _. own_right task_line _ _ name (sample-name _ (transaction-names.is_name (transaction p i) (whole.task_number i task))) right.task_of_lem))
      (λ event. own_right event_line _ _ (sample-name _ (event-names.is_name (i - tasks p) (omega arith))) sample-none right.event)

  no_own : (x : ℕ) → x < size p → own_mistake (line_at (room p) x) ≡ 0
  unfolding instruction_of
  no_own =
      let c = whole.contents in
      every p (λ _ g. own_mistake g ≡ 0)
      (record {
        memory = own_right memory_line _ _ (sample-number (memory_words p) (omega arith)) sample-none right.memory;
        entry = own_right entry_line _ _ (sample-name _ (task-names.is_name (entry p) (omega arith))) sample-none right.entry;
        transaction =
            λ n h has.
            own_right transaction_line _ _ (sample-name _ (transaction-names.is_name (suc n) (omega arith))) (sample-number (suc n) (omega arith))
            right.transaction;
        empty = λ i h. own_none blank refl right.blank;
        heading = heading_own;
        instruction = λ i j h l. own_none (instruction_of p i j) refl (none_wrong_in whole i j h l);
      })

  -- ---- among the others

  -- what is asked of a line at x beside its label: where a task stands, a name that is new, memory and entry given once, and the names that it uses
  abbrev Placed : ℕ → Line → Type 0
  Placed x l =
      ((eqb l.statement task_line and ltb 0 (above p event_line x)) ≡ false)
      × ((name_first l.statement and ltb (numbered l.statement l.first (lines_at (room p) 0 x) 0) none) ≡ false)
      × (((eqb l.statement memory_line or eqb l.statement entry_line) and ltb 0 (above p l.statement x)) ≡ false)
      × (missing_task (room p) (size p) (task_word l) ≡ false)
      × (missing_transaction (room p) (size p) (transaction_word l) ≡ false)

  module _ (start x : ℕ) (l : Line) (here : line_at (room p) x ≡ l) where
    among_none : label_mistake (room p) start x ≡ 0 → (is_instruction l and eqb start 0) ≡ false
        → missing_label (room p) (size p) start (label_word l) ≡ false → Placed x l → among_mistake (room p) (size p) start x ≡ 0
    unfolding among_mistake place_mistake name_mistake
    among_none label begun target placed =
        next-counts _ label
        ∙ rw here
        (next-counts _ (not_made_first _ _ begun ∙ not_made_first _ _ placed.0 ∙ not_made_first _ _ placed.1 ∙ not_made _ placed.2)
        ∙ not_made_first _ _ placed.3 ∙ not_made_first _ _ target ∙ not_made _ placed.4)

    -- a line without a label that is no instruction
    plain_none : l.label ≡ 0 → is_instruction l ≡ false → Placed x l → among_mistake (room p) (size p) start x ≡ 0
    unfolding label_mistake missing_label label_word pick both
    plain_none label plain = among_none (rw here (pick_true _ _ (eq-eqb _ _ label))) (rw plain) (rw plain)

  -- the name of a task that there is, of a label or of a transaction
  known : (w v k : ℕ) → v ≡ k → k < none → (is_name_word w and eqb v none) ≡ false
  known w v k e h = and_false (is_name_word w) _ (ne_eqb v none (omega arith))

  task-known : (k : ℕ) → k < tasks p → missing_task (room p) (size p) (named (task_name k)) ≡ false
  unfolding missing_task
  task-known k h = known (named (task_name k)) _ k (task-found whole k h) (omega (arith, whole.contents))

  transaction-known : (i : ℕ) → i < tasks p → transaction p i ≢ 0 → missing_transaction (room p) (size p) (named (transaction_name (transaction p i))) ≡ false
  unfolding missing_transaction
  transaction-known i h some =
      known (named (transaction_name (transaction p i))) _ (transaction p i) (task-number-found whole i h some) (omega (arith, whole.task_number i h))

  label_known : (i k : ℕ) → i < bodies p → k < instructions p i → is_target p i k (instructions p i) ≡ true
      → missing_label (room p) (size p) (code_at p i) (named (label_name k)) ≡ false
  unfolding missing_label
  label_known i k h l target = known (named (label_name k)) _ k (label_found whole i h k l target) (omega (arith, whole.few i h))

  -- a name that no line above has
  new : (v : ℕ) → v ≡ none → ltb v none ≡ false
  new v e = le-ltb v none (omega arith)

  abbrev FreeAt : ℕ → Type 0
  FreeAt x = among_mistake (room p) (size p) (body_start (room p) x) x ≡ 0

  task_free : (i : ℕ) → i < bodies p → i < tasks p → line_at (room p) (suc (body_at p i)) ≡ task_heading p i → FreeAt (suc (body_at p i))
  unfolding name_first is_instruction missing_task missing_transaction task_word transaction_word pick both either
  task_free i h task is =
      plain_none _ _ (task_heading p i) is refl refl (
        le-ltb 0 (above p event_line (suc (body_at p i))) (omega (arith, above_heading (events_above whole) i (omega arith))),
        new _ (task-first whole i h task),
        refl,
        refl,
        pick_case (λ w. missing_transaction (room p) (size p) w ≡ false) (λ _. refl) (λ e. transaction-known i task (eqb-false _ _ e)),
      )

  event_free : (i : ℕ) → i < bodies p → tasks p ≤ i → line_at (room p) (suc (body_at p i)) ≡ event_heading p i → FreeAt (suc (body_at p i))
  unfolding name_first is_instruction missing_task missing_transaction task_word transaction_word pick both either
  event_free i h event is =
      plain_none _ _ (event_heading p i) is refl refl (refl, new _ (event-first whole i h event), refl, refl, refl)

  module _ (i j : ℕ) (h : i < bodies p) (l : j < instructions p i) where
    abbrev g : Line
    g = instruction_of p i j

    own_label : eqb g.label 0 ≡ false → g.label ≡ named (label_name j)
    unfolding instruction_of label_of
    own_label = pick_case (λ v. eqb v 0 ≡ false → v ≡ named (label_name j)) (λ _ _. refl) (λ _ e. clash refl e)

    label_free : label_mistake (room p) (code_at p i) (code_at p i + j) ≡ 0
    unfolding label_mistake either
    label_free =
        let begun : eqb (code_at p i) 0 ≡ false = ne_eqb (code_at p i) 0 (omega arith) in
        rw (at-instruction p i j h l)
        (pick_case (λ (m : ℕ). m ≡ 0) (λ _. refl)
        (λ e.
        not_made_first _ _ (rw (begun, is_instruction_lem whole i j h l) (and_false _ _ refl))
        ∙ not_made _
        (subst (λ (v : ℕ). has_label v (lines_at (room p) (code_at p i) (code_at p i + j - code_at p i)) ≡ false) (sym (own_label e)) (label_first whole i h j l))))

    task_word_free : missing_task (room p) (size p) (task_word g) ≡ false
    unfolding task_word missing_task both
    task_word_free =
        pick_case (λ w. missing_task (room p) (size p) w ≡ false)
        (λ e.
        let go = goes whole i j h l e in
        rw (go_first whole i j h l go) (task-known (operand p i j) ((whole.fields i j h l).task_inside go)))
        (λ _. refl)

    label_word_free : missing_label (room p) (size p) (code_at p i) (label_word g) ≡ false
    unfolding label_word missing_label both
    label_word_free =
        pick_case (λ w. missing_label (room p) (size p) (code_at p i) w ≡ false)
        (λ e.
        let jump = sym (jumps whole i j h l) ∙ e in
        rw (jump_word whole i j h l jump)
        (label_known i (operand p i j) h ((whole.fields i j h l).target_inside jump) (targets whole i j h l jump)))
        (λ _. refl)

    instruction_free : FreeAt (code_at p i + j)
    unfolding transaction_word missing_transaction pick both either
    instruction_free =
        let other = is_none_other whole i j h l in
        subst (λ (start : ℕ). among_mistake (room p) (size p) start (code_at p i + j) ≡ 0) (sym (body-start whole i h j (omega arith)))
        (among_none (code_at p i) (code_at p i + j) g (at-instruction p i j h l) label_free (and_false (is_instruction g) _ (ne_eqb (code_at p i) 0 (omega arith)))
        label_word_free (
          rw (other task_line (omega arith)),
          rw (is_unnamed whole i j h l),
          rw (other memory_line (omega arith), other entry_line (omega arith)),
          task_word_free,
          rw (other task_line (omega arith)),
        ))

  no_among : (x : ℕ) → x < size p → FreeAt x
  unfolding lines_at count_from one is_of name_first is_instruction missing_task missing_transaction task_word transaction_word pick both either
  no_among x h =
      every p (λ y g. line_at (room p) y ≡ g → FreeAt y)
      (record {
        memory = λ e. plain_none _ 0 (memory_of p) e refl refl (refl, refl, refl, refl, refl);
        entry = λ e. plain_none _ 1 (entry_of p) e refl refl (refl, refl, rw (at-memory p), task-known (entry p) whole.contents.entry_is, refl);
        transaction = λ n h has e. plain_none _ (transaction_at p n) (transaction_of (suc n)) e refl refl (refl, new _ (transaction-first whole n h), refl, refl, refl);
        empty = λ i h e. plain_none _ (body_at p i) blank e refl refl (refl, refl, refl, refl, refl);
        heading = λ i h. heading_case p i (λ g. line_at (room p) (suc (body_at p i)) ≡ g → FreeAt (suc (body_at p i))) (task_free i h) (event_free i h);
        instruction = λ i j h l e. instruction_free i j h l;
      })
      x h refl

  -- ---- of all lines

  pub own_free : first_own (room p) 0 (size p) ≡ mistake_at 0 0
  unfolding first_own
  own_free =
      first-none (first_own (room p)) (λ x. own_mistake (line_at (room p) x)) (λ _. refl) (λ x k e. pick_true _ _ (eq-eqb _ _ e)) 0 (size p)
      (λ y _ u. no_own y (omega arith))

  pub among_free : first_among (room p) (size p) 0 (size p) ≡ mistake_at 0 0
  unfolding first_among
  among_free =
      first-none (first_among (room p) (size p)) (λ x. among_mistake (room p) (size p) (body_start (room p) x) x) (λ _. refl)
      (λ x k e. pick_true _ _ (eq-eqb _ _ e)) 0 (size p) (λ y _ u. no_among y (omega arith))
