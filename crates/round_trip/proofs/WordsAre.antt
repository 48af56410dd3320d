-- The program words of the lines of a program's text are the program: the contents first, then a row for each heading, then two words for each
-- instruction, each part behind the words that are there already. Assumes nothing.
use Prim.Native.Nat.{ℕ, zero, suc, ◌+◌, ◌-◌, ◌*◌, ◌≤◌, ◌<◌}
use mathlib.Core.Bool.{true, false}
use mathlib.Core.List.{List, [], ◌∷◌, ◌++◌, append_assoc, append-nil}
use mathlib.Core.Logic.{◌≢◌}
use mathlib.Core.Path.{◌≡◌, refl, sym, ◌∙◌}
use native.Mathlib.Nat.{add-zero}
use native.Mathlib.Numerals.{add-one, add-two}
use native.Mathlib.Omega.{arith}
use borrow.Author.Tests.{eqb-true, eqb-false}
use lib.ListN.{length, take}
use lib.Seq.{take-suc, take-length, append_snoc}
use Rattle.assembly.proofs.LineLaws.{lines_step, lines-all, count_more, count_grows, one-instruction, not_instruction, one-body, not_body}
use Rattle.assembly.proofs.WordLaws.{five}
use Rattle.assembly.specs.Lines.{line_at, lines_at, body_line, instruction_line, is_body, is_instruction, is_of, one, count_from, given, body_start}
use Rattle.assembly.specs.Mistakes.{program_length, transaction_word}
use Rattle.assembly.specs.Words.{as_word, task_of, label_of, transaction_of, second_word, instruction_words, body_words, start_of, row_words, rows, contents, words}
use Rattle.listing.specs.Listing.{task_name, label_name, transaction_name, is_target}
use Rattle.model.proofs.TestLaws.{pick_case, pick_true, pick-false, below_or}
use Rattle.model.specs.Program.{word, tasks, events, memory_words, entry, total, bodies, start, instructions, transaction, bodies_start, row_at, operand}
use Rattle.model.specs.Test.{pick, both}
use Rattle.tokens.specs.Tokens.{named}
use Rattle.round_trip.specs.Expected.{memory_of, entry_of, heading_of, instruction_of}
use Rattle.round_trip.proofs.AcceptedLaws.{Whole, before_few}
use Rattle.round_trip.proofs.CountLaws.{above, heading_case, heading-body, tasks_above, events_above, bodies_above, instructions_above, above_heading, above_instruction, above_end}
use Rattle.round_trip.proofs.FoundLaws.{task-found, task-number-found, body-start, label_found, body-count}
use Rattle.round_trip.proofs.InstructionLaws.{is_instruction_lem, is_no_body, opcode_is, targets, jump_word, go_word, number_word, first_word_is}
use Rattle.round_trip.proofs.LineLaws.{room, size, transaction_at, body_at, code_at, lines_are, first-transaction, transaction-inside, at-memory, at_entry, at-heading, at-instruction, every}
use Rattle.round_trip.proofs.NameLaws.{task-names, transaction-names, label_names}

-- ---- A list's first words, and the m behind word k

words_from : List ℕ → ℕ → ℕ → List ℕ
words_from p k zero = []
words_from p k (suc m) = word p k ∷ words_from p (suc k) m

taken : (p : List ℕ) (k m : ℕ) → k + m ≤ length p → take (k + m) p ≡ take k p ++ words_from p k m
unfolding words_from
taken p k zero h = rw (add-zero, append-nil)
taken p k (suc m) h =
    let along : k + suc m ≡ suc k + m = omega arith in
    rw (along, taken p (suc k) m (omega arith), take-suc p k 0 (omega arith)) (append_snoc (take k p) (word p k) (words_from p (suc k) m))

-- words that are put one part behind the other, g x and then h x
module _ (p base : List ℕ) (g h : ℕ → List ℕ) (from many : ℕ → ℕ) (n : ℕ)
    (begins : base ≡ take (from 0) p)
    (none : g 0 ≡ [])
    (more : (x : ℕ) → g (suc x) ≡ g x ++ h x)
    (next : (x : ℕ) → from (suc x) ≡ from x + many x)
    (inside : (x : ℕ) → x ≤ n → from x ≤ length p)
    (each : (x : ℕ) → x < n → h x ≡ words_from p (from x) (many x)) where
  gathered : (x : ℕ) → x ≤ n → base ++ g x ≡ take (from x) p
  gathered zero l = rw (none, append-nil) begins
  gathered (suc x) l =
      rw (more x, ← append_assoc base (g x) (h x), gathered x (omega arith), each x l, next x)
      (sym (taken p (from x) (many x) (omega (arith, next x, inside (suc x) l))))

-- a number that fits is a word
as_word_lem : (n m : ℕ) → n ≡ m → m ≤ 65535 → as_word n ≡ m
unfolding as_word
as_word_lem n m e h = omega arith

module _ {p : List ℕ} (whole : Whole p) where
  -- ---- What a name stands for

  task_of_lem : (k : ℕ) → k < tasks p → task_of (room p) (size p) (named (task_name k)) ≡ k
  unfolding task_of
  task_of_lem k h = pick_true _ _ (task-names.is_name k (omega (arith, whole.contents))) ∙ task-found whole k h

  label_of_lem : (i k : ℕ) → i < bodies p → k < instructions p i → is_target p i k (instructions p i) ≡ true
      → label_of (room p) (size p) (code_at p i) (named (label_name k)) ≡ k
  unfolding label_of
  label_of_lem i k h l target =
      pick_true _ _ (label_names.is_name k (omega (arith, whole.few i h))) ∙ label_found whole i h k l target

  transaction_of_lem : (i : ℕ) → i < bodies p → transaction_of (room p) (size p) (transaction_word (heading_of p i)) ≡ transaction p i
  unfolding transaction_of transaction_word pick
  transaction_of_lem i h =
      heading_case p i (λ g. transaction_of (room p) (size p) (transaction_word g) ≡ transaction p i)
      (λ task.
      let t = transaction p i in
      pick_case {x = 0} {y = named (transaction_name t)} (λ w. transaction_of (room p) (size p) w ≡ t) (λ e. sym (eqb-true _ _ e))
      (λ e.
      pick_true _ _ (transaction-names.is_name t (whole.task_number i task))
      ∙ task-number-found whole i task (eqb-false _ _ e)))
      (λ event. sym (whole.event_number i h event))

  -- ---- The contents

  pub length_is : program_length (room p) (size p) ≡ total p
  unfolding program_length
  length_is =
      omega
      (arith, above_end (bodies_above whole), above_end (instructions_above whole), whole.total_is)

  pub total-fits : total p ≤ 65535
  total-fits = omega (arith, whole.total_is, before_few whole (bodies p) (omega arith), whole.contents)

  long : 2 < size p
  long = omega (arith, lines_are p, transaction-inside p 0 (omega arith), first-transaction p)

  all_are : lines_at (room p) 0 (size p) ≡ memory_of p ∷ entry_of p ∷ lines_at (room p) 2 (size p - 2)
  all_are =
      sym (lines-all (room p) (size p))
      ∙ rw (lines_step (room p) (size p) 0 (omega (arith, long)), lines_step (room p) (size p) 1 (omega (arith, long)), at-memory p, at_entry p)

  few_above : (class x : ℕ) → x ≤ size p → above p class x ≤ above p class (size p)
  few_above class x h = let end : x + (size p - x) ≡ size p = omega arith in rw end at (count_grows class (room p) x (size p - x))

  pub is_given : (class : ℕ) → 1 ≤ one class (memory_of p) + one class (entry_of p) → above p class (size p) ≢ 0
  unfolding lines_at count_from
  is_given class some none =
      let more = rw (at-memory p, at_entry p) at (few_above class 2 (omega (arith, long))) in
      absurd (omega arith)

  contents_are : contents (room p) (size p) ≡ take 6 p
  unfolding contents given words_from pick
  contents_are =
      let c = whole.contents in
      five
      (as_word_lem _ (tasks p) (above_end (tasks_above whole) ∙ omega arith) (omega arith))
      (as_word_lem _ (events p) (above_end (events_above whole) ∙ omega arith) (omega arith))
      (as_word_lem _ (memory_words p) (rw all_are (omega arith)) (omega arith))
      (as_word_lem _ (entry p) (rw all_are (task_of_lem (entry p) c.entry_is)) (omega arith))
      (as_word_lem _ (total p) length_is total-fits)
      ∙ rw (← whole.mark) (sym (taken p 0 6 c.six))

  -- ---- The words of a heading, of an instruction and of the lines that are neither

  by_kind : (Q : ℕ → Type 0) → ((x : ℕ) → is_body (line_at (room p) x) ≡ false → is_instruction (line_at (room p) x) ≡ false → Q x)
      → ((i : ℕ) → i < bodies p → Q (suc (body_at p i))) → ((i j : ℕ) → i < bodies p → j < instructions p i → Q (code_at p i + j))
      → (x : ℕ) → x < size p → Q x
  unfolding is_body is_instruction both
  by_kind Q neither heading instruction x h =
      every p (λ y g. line_at (room p) y ≡ g → Q y)
      (record {
        memory = λ e. neither 0 (rw e) (rw e);
        entry = λ e. neither 1 (rw e) (rw e);
        transaction = λ n _ _ e. neither (transaction_at p n) (rw e) (rw e);
        empty = λ i _ e. neither (body_at p i) (rw e) (rw e);
        heading = λ i h _. heading i h;
        instruction = λ i j h l _. instruction i j h l;
      })
      x h refl

  -- ---- The rows

  abbrev row_from : ℕ → ℕ
  row_from x = 6 + 3 * above p body_line x

  abbrev RowAt : ℕ → Type 0
  RowAt x = row_words (room p) (size p) x ≡ words_from p (row_from x) (3 * one body_line (line_at (room p) x))

  no_row : (x : ℕ) → is_body (line_at (room p) x) ≡ false → RowAt x
  unfolding row_words words_from
  no_row x e = pick-false _ _ e ∙ rw (not_body (line_at (room p) x) e)

  module _ (i : ℕ) (h : i < bodies p) where
    start_of_lem : as_word (start_of (room p) (size p) (suc (body_at p i))) ≡ start p i
    unfolding start_of
    start_of_lem =
        as_word_lem _ (start p i)
        (omega (
          arith,
          above_end (bodies_above whole),
          above_heading (instructions_above whole) i (omega arith),
          whole.start_is i h,
        ))
        (omega (arith, whole.start_is i h, before_few whole i (omega arith), whole.contents))

    number_fits : transaction p i ≤ 65535
    number_fits = below_or i (tasks p) (λ task. omega (arith, whole.task_number i task)) (λ event. omega (arith, whole.event_number i h event))

    heading-row : RowAt (suc (body_at p i))
    unfolding row_words words_from
    heading-row =
        let line = at-heading p i h in
        let body : is_body (line_at (room p) (suc (body_at p i))) ≡ true = rw line (heading-body p i) in
        let from : row_from (suc (body_at p i)) ≡ row_at i = omega (arith, above_heading (bodies_above whole) i (omega arith)) in
        let number : as_word (transaction_of (room p) (size p) (transaction_word (line_at (room p) (suc (body_at p i))))) ≡ transaction p i =
        as_word_lem _ (transaction p i) (rw line (transaction_of_lem i h)) number_fits in
        pick_true _ _ body
        ∙ rw (start_of_lem, as_word_lem _ (instructions p i) (body-count whole i h) (omega (arith, whole.few i h)), number, from, one-body (line_at (room p) (suc (body_at p i))) body)
        (rw (add-one, add-two))

  row-at : (x : ℕ) → x < size p → RowAt x
  row-at = by_kind RowAt (λ x none _. no_row x none) heading-row (λ i j h l. no_row (code_at p i + j) (rw (at-instruction p i j h l) (is_no_body whole i j h l)))

  rows_are : contents (room p) (size p) ++ rows (room p) (size p) (size p) ≡ take (bodies_start p) p
  unfolding rows lines_at count_from
  rows_are =
      let end = above_end (bodies_above whole) in
      gathered p (contents (room p) (size p)) (rows (room p) (size p)) (row_words (room p) (size p)) row_from (λ x. 3 * one body_line (line_at (room p) x)) (size p)
      contents_are refl (λ x. refl) (λ x. omega (arith, count_more body_line (room p) x))
      (λ x l. omega (arith, end, few_above body_line x l, whole.total_is, whole.contents)) row-at (size p) (omega arith)
      ∙ rw end

  -- ---- The bodies

  abbrev code_from : ℕ → ℕ
  code_from x = bodies_start p + 2 * above p instruction_line x

  abbrev CodeAt : ℕ → Type 0
  CodeAt x =
      instruction_words (room p) (size p) (body_start (room p) x) (line_at (room p) x)
      ≡ words_from p (code_from x) (2 * one instruction_line (line_at (room p) x))

  no_code : (x : ℕ) → is_instruction (line_at (room p) x) ≡ false → CodeAt x
  unfolding instruction_words words_from
  no_code x e = pick-false _ _ e ∙ rw (not_instruction (line_at (room p) x) e)

  module _ (i j : ℕ) (h : i < bodies p) (l : j < instructions p i) where
    second_word_is : second_word (room p) (size p) (code_at p i) (instruction_of p i j) ≡ operand p i j
    unfolding second_word
    second_word_is =
        let k = operand p i j in
        let fields = whole.fields i j h l in
        as_word_lem _ k
        (rw (opcode_is whole i j h l)
        (pick_case (λ (m : ℕ). m ≡ k)
        (λ jump. rw (jump_word whole i j h l jump) (label_of_lem i k h (fields.target_inside jump) (targets whole i j h l jump)))
        (λ jump.
        pick_case (λ (m : ℕ). m ≡ k) (λ go. rw (go_word whole i j h l go) (task_of_lem k (fields.task_inside go)))
        (λ go.
        pick_case (λ (m : ℕ). m ≡ k) (λ used. rw (number_word whole i j h l jump go used) (omega arith)) (λ none. sym (fields.operand_unused none))))))
        fields.operand_fits

    code-words : CodeAt (code_at p i + j)
    unfolding instruction_words words_from one is_of is_instruction both pick
    code-words =
        let code = is_instruction_lem whole i j h l in
        let heading = heading_case p i (λ g. one instruction_line g ≡ 0) (λ _. refl) (λ _. refl) in
        let from : code_from (code_at p i + j) ≡ start p i + 2 * j =
        omega (arith, above_instruction (instructions_above whole) i j h (omega arith), heading, whole.start_is i h) in
        rw (at-instruction p i j h l, body-start whole i h j (omega arith), from, one-instruction (instruction_of p i j) code)
        (pick_true _ _ code ∙ rw (first_word_is whole i j h l, second_word_is, add-one))

  code-at : (x : ℕ) → x < size p → CodeAt x
  unfolding is_instruction both
  code-at =
      by_kind CodeAt (λ x _ none. no_code x none)
      (λ i h. no_code (suc (body_at p i)) (rw (at-heading p i h) (heading_case p i (λ g. is_instruction g ≡ false) (λ _. refl) (λ _. refl)))) code-words

  pub words_are : words (room p) (size p) ≡ p
  unfolding words body_words lines_at count_from
  words_are =
      let end = above_end (instructions_above whole) in
      gathered p (contents (room p) (size p) ++ rows (room p) (size p) (size p)) (body_words (room p) (size p))
      (λ x. instruction_words (room p) (size p) (body_start (room p) x) (line_at (room p) x)) code_from (λ x. 2 * one instruction_line (line_at (room p) x)) (size p)
      (rows_are ∙ rw add-zero) refl (λ x. refl) (λ x. omega (arith, count_more instruction_line (room p) x))
      (λ x l. omega (arith, end, few_above instruction_line x l, whole.total_is, whole.contents)) code-at (size p) (omega arith)
      ∙ (let whole_length : code_from (size p) ≡ length p = omega (arith, end, whole.total_is, whole.contents) in rw whole_length (take-length p))
