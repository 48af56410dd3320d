-- The text of a program that the check accepts is read as the lines of specs/Expected.antt, statement by statement, and it fits what can be
-- assembled. Assumes nothing.
use Rattle.model.specs.Types.{Ok}
use Prim.Native.Nat.{ℕ, zero, suc, ◌+◌, ◌-◌, ◌*◌, ◌≤◌, ◌<◌}
use mathlib.Core.Bool.{Bool, true}
use mathlib.Core.List.{List, [], ◌∷◌, ◌++◌, append_assoc, append-nil}
use mathlib.Core.Path.{◌≡◌, refl, sym, ◌∙◌}
use native.Mathlib.Omega.{arith}
use borrow.Author.Tests.{ltb-true, leb-true, le-leb}
use lib.Dec.{eqb, ltb, leb}
use lib.ListN.{length, get_or, length-append}
use Rattle.assembly.specs.Lines.{task_line}
use Rattle.assembly.specs.Lines.{Line}
use Rattle.listing.proofs.ListingLaws.{sound_printable}
use Rattle.listing.specs.Listing.{task_name, transaction_name, has_number, transaction_line, transaction_lines, register, target, instruction_text, instruction_line, instruction_lines, transaction_word, heading, body_lines, first_lines, listing}
use Rattle.model.proofs.ProgramLaws.{row-passed, check-passed}
use Rattle.model.proofs.Range.{within}
use Rattle.model.proofs.TestLaws.{pick_case, and_true, and_right, must-passed, must_then, then_first}
use Rattle.model.specs.Accepted.{Contents, Sound}
use Rattle.model.specs.Check.{check, row_usable, limits, fields_fit, instruction_rule}
use Rattle.model.specs.Program.{tasks, bodies, memory_words, entry, instructions, transaction, opcode, field_a, field_b, code, operand, bounds}
use Rattle.model.specs.Test.{pick, ◌and◌}
use Rattle.round_trip.proofs.ReadingLines.{Gap, Words, Spaced, Lines, word-behind, spaced-behind, no_lines, lines_then, flat_append, line-ends, blank-line, no_margin, margin-gap}
use Rattle.round_trip.proofs.ReadingWords.{pick-both, Word, number_word, task-word, event-word, transaction-word, label_word_lem, statement-word}
use Rattle.round_trip.specs.Expected.{line, blank, memory_of, entry_of, transaction_of, transactions_of, heading_of, operand_word, if_used, operand_words, instruction_of, instructions_of, bodies_of, expected, flat}
use Rattle.text.specs.Ascii.{ascii}
use Rattle.text.specs.Text.{space, spaced}
use Rattle.tokens.specs.Tokens.{number, named, start, statement, statement_names, numbers, last, if_right, ended, ended_by, finished, lines_from, lines, line_count}
use Rattle.tokens.specs.Uses.{uses_a, uses_b, uses_k}

-- ---- Choices

one_at_most : {A : Type 0} (t : Bool) (x : A) → length (pick t (x ∷ []) []) ≤ 1
one_at_most t x = pick_case (λ (xs : List _). length xs ≤ 1) (λ _. omega arith) (λ _. omega arith)

pick-most : (t : Bool) {a b n : ℕ} → a ≤ n → b ≤ n → pick t a b ≤ n
pick-most t {n = n} h l = pick_case (λ (k : ℕ). k ≤ n) (λ _. h) (λ _. l)

-- ---- A statement's line

spaced-word : {bytes : List ℕ} {w : ℕ} → Word bytes w → Spaced (space ∷ bytes) w
spaced-word {bytes} word = record { bytes = bytes; word = word; is = refl }

spaced-number : (n : ℕ) → n ≤ 65535 → Spaced (spaced n) (number n)
unfolding spaced
spaced-number n h = spaced-word (number_word n h)

module _ (n : ℕ) (known : n < 22) where
  statement-begins : {bytes : List ℕ} {label : ℕ} → Gap bytes label [] → Words (bytes ++ get_or statement_names n []) label (named (get_or statement_names n []) ∷ [])
  statement-begins gap = word-behind gap (statement-word n known).0 (omega arith)

  statement-ends : {bytes : List ℕ} {label : ℕ} {ws : List ℕ} → Words bytes label (named (get_or statement_names n []) ∷ ws) → length ws ≤ 3
      → Lines (bytes ++ ascii "\n") (line label (n + 1) (get_or ws 0 0) (get_or ws 1 0) (get_or ws 2 0) ∷ [])
  statement-ends words h = rw (statement-word n known).1 at (line-ends words h)

  one_word : {xs : List ℕ} {w : ℕ} → Spaced xs w → Lines (get_or statement_names n [] ++ xs ++ ascii "\n") (line 0 (n + 1) w 0 0 ∷ [])
  one_word s = statement-ends (spaced-behind (statement-begins no_margin) s (omega arith)) (omega arith)

  two-words : {xs ys : List ℕ} {w v : ℕ} → Spaced xs w → Spaced ys v → Lines (get_or statement_names n [] ++ xs ++ ys ++ ascii "\n") (line 0 (n + 1) w v 0 ∷ [])
  two-words s t = statement-ends (spaced-behind (spaced-behind (statement-begins no_margin) s (omega arith)) t (omega arith)) (omega arith)

-- ---- The first lines

regroup : (a b c : List ℕ) → a ++ b ++ ascii "\nentry " ++ c ++ ascii "\n" ≡ (a ++ b ++ ascii "\n") ++ (ascii "entry" ++ (space ∷ c) ++ ascii "\n")
regroup a b c = simp append_assoc

first_read : (p : List ℕ) → Contents p → Lines (first_lines p) (memory_of p ∷ entry_of p ∷ [])
unfolding first_lines statement_names
first_read p c =
    rw (regroup (ascii "memory") (spaced (memory_words p)) (task_name (entry p)))
    (lines_then (one_word 17 (omega arith) (spaced-number (memory_words p) (omega arith))) (one_word 18 (omega arith) (spaced-word (task-word (entry p) (omega arith)))))

-- ---- Transactions

transactions_read : (p : List ℕ) (n : ℕ) → n ≤ 65535 → Lines (transaction_lines p n) (transactions_of p n)
unfolding transaction_lines transaction_line transactions_of statement_names
transactions_read p zero h = no_lines
transactions_read p (suc n) h =
    lines_then (transactions_read p n (omega arith))
    (pick-both Lines (λ _. two-words 19 (omega arith) (spaced-word (transaction-word (suc n) h)) (spaced-number (suc n) h)) (λ _. no_lines))

-- ---- Headings

task-read : (i n : ℕ) → i ≤ 65535 → n ≤ 65535
    → Lines (ascii "task " ++ task_name i ++ transaction_word n ++ ascii "\n") (line 0 task_line (named (task_name i)) (pick (eqb n 0) 0 (named (transaction_name n))) 0 ∷ [])
unfolding transaction_word statement_names
task-read i n h l =
    let word = spaced-word (task-word i h) in
    pick-both (λ (xs : List ℕ) (w : ℕ). Lines (ascii "task " ++ task_name i ++ xs ++ ascii "\n") (line 0 task_line (named (task_name i)) w 0 ∷ []))
    (λ _. rw (append-nil (task_name i)) (one_word 20 (omega arith) word))
    (λ _. two-words 20 (omega arith) word (spaced-word (transaction-word n l)))

heading-read : (p : List ℕ) (i : ℕ) → i ≤ 65535 → transaction p i ≤ 65535 → Lines (heading p i) (blank ∷ heading_of p i ∷ [])
unfolding heading heading_of statement_names
heading-read p i h small =
    pick-both (λ (xs : List ℕ) (l : Line). Lines xs (blank ∷ l ∷ []))
    (λ _. lines_then blank-line (task-read i (transaction p i) h small))
    (λ _. lines_then blank-line (one_word 21 (omega arith) (spaced-word (event-word (i - tasks p) (omega arith)))))

-- ---- Instructions

spaced_if : (t : Bool) {bytes xs : List ℕ} {label w : ℕ} {ws : List ℕ} → Words bytes label ws → Spaced xs w → length ws ≤ 3
    → Words (bytes ++ pick t xs []) label (ws ++ if_used t w)
unfolding if_used
spaced_if t {bytes = bytes} {label = label} {ws = ws} words s h =
    pick-both (λ (xs vs : List ℕ). Words (bytes ++ xs) label (ws ++ vs)) (λ _. spaced-behind words s h) (λ _. rw (append-nil bytes, append-nil ws) words)

few_operands : (w k : ℕ) → length (operand_words w k) ≤ 3
unfolding operand_words if_used
few_operands w k =
    simp length-append
    (omega (arith, one_at_most (uses_a (opcode w)) (number (field_a w)), one_at_most (uses_b (opcode w)) (number (field_b w)), one_at_most (uses_k (opcode w)) (operand_word (opcode w) k)))

operand-spaced : (op k : ℕ) → k ≤ 65535 → Spaced (target op k) (operand_word op k)
unfolding target operand_word
operand-spaced op k h =
    pick-both Spaced (λ _. spaced-word (label_word_lem k h))
    (λ _. pick-both Spaced (λ _. spaced-word (task-word k h)) (λ _. spaced-number k h))

in_front : (m a b c d e : List ℕ) → m ++ (a ++ b ++ c ++ d ++ e) ≡ m ++ a ++ b ++ c ++ d ++ e
in_front m a b c d e = simp append_assoc

instruction-read : (p : List ℕ) (i j : ℕ) → j ≤ 65535 → opcode (code p i j) ≤ 16 → operand p i j ≤ 65535 → Lines (instruction_line p i j) (instruction_of p i j ∷ [])
unfolding instruction_line instruction_text instruction_of operand_words if_used register
instruction-read p i j h known small =
    let w = code p i j in
    let k = operand p i j in
    let op = opcode w in
    let one-a = one_at_most (uses_a op) (number (field_a w)) in
    let one_b = one_at_most (uses_b op) (number (field_b w)) in
    let begun = statement-begins op (omega arith) (margin-gap p i j h) in
    let with-a = spaced_if (uses_a op) begun (spaced-number (field_a w) (omega arith)) (omega arith) in
    let with-b = spaced_if (uses_b op) with-a (spaced-number (field_b w) (omega arith)) (omega arith) in
    let with-k = spaced_if (uses_k op) with-b (operand-spaced op k small) (simp length-append (omega arith)) in
    rw in_front (statement-ends op (omega arith) with-k (few_operands w k))

-- ---- What an accepted program's numbers are below

bound_most : (m t n op : ℕ) (isTask : Bool) → m ≤ 65536 → t ≤ 65536 → n ≤ 65536 → op ≤ 16 → (bounds m t n isTask op).k ≤ 65536
unfolding bounds
bound_most m t n op isTask hm ht hn known =
    let go : pick isTask t 0 ≤ 65536 = pick-most isTask ht (omega arith) in
    let done : pick isTask 0 1 ≤ 65536 = pick-most isTask (omega arith) (omega arith) in
    within (λ (op : ℕ). (bounds m t n isTask op).k ≤ 65536) 0 17 op (omega arith) (omega arith) (omega arith)

-- the lines but the last, which is empty
abbrev printed_lines : List ℕ → List Line
printed_lines p = (memory_of p ∷ entry_of p ∷ transactions_of p 255) ++ bodies_of p (bodies p)

module _ (p : List ℕ) (sound : Sound p) where
  most_instructions : (i : ℕ) → i < bodies p → instructions p i ≤ 256
  most_instructions i h = (row-passed p i (sound.row i h)).most_instructions

  most-transaction : (i : ℕ) → i < bodies p → transaction p i ≤ 255
  unfolding row_usable limits
  most-transaction i h =
      let (_, e1) = must_then _ _ _ (then_first _ _ (sound.row i h)) in
      let (_, e2) = must_then _ _ _ e1 in
      let most : pick (ltb i (tasks p)) 255 0 ≤ 255 = pick-most (ltb i (tasks p)) (omega arith) (omega arith) in
      omega (arith, leb-true (transaction p i) (pick (ltb i (tasks p)) 255 0) (must-passed _ _ e2))

  known-opcode : (i j : ℕ) → i < bodies p → j < instructions p i → opcode (code p i j) ≤ 16
  known-opcode i j h l = ((sound_printable p sound).body i h).known j l

  most-operand : (i j : ℕ) → i < bodies p → j < instructions p i → operand p i j ≤ 65535
  unfolding instruction_rule fields_fit
  most-operand i j h l =
      let w = code p i j in
      let c = sound.rows.contents in
      let f = bounds (memory_words p) (tasks p) (instructions p i) (ltb i (tasks p)) (opcode w) in
      let fits = and_right (ltb (field_a w) f.a) _ (must-passed _ _ (then_first _ _ (sound.rule i j h l))) in
      let most = bound_most (memory_words p) (tasks p) (instructions p i) (opcode w) (ltb i (tasks p)) (omega (arith, c.most_memory)) (omega (arith, c.most_tasks)) (omega (arith, most_instructions i h)) (known-opcode i j h l) in
      omega (arith, most, ltb-true (operand p i j) f.k (and_right (ltb (field_b w) f.b) _ fits))

  -- ---- The whole text

  instructions-read : (i n : ℕ) → i < bodies p → n ≤ instructions p i → Lines (instruction_lines p i n) (instructions_of p i n)
  unfolding instruction_lines instructions_of
  instructions-read i zero h l = no_lines
  instructions-read i (suc n) h l =
      lines_then (instructions-read i n h (omega arith))
      (instruction-read p i n (omega (arith, most_instructions i h)) (known-opcode i n h l) (most-operand i n h l))

  bodies-read : (n : ℕ) → n ≤ bodies p → Lines (body_lines p n) (bodies_of p n)
  unfolding body_lines bodies_of
  bodies-read zero h = no_lines
  bodies-read (suc n) h =
      let c = sound.rows.contents in
      let small : n ≤ 65535 = omega (arith, c.most_tasks, c.most_events) in
      rw append_assoc
      (lines_then (bodies-read n (omega arith))
      (lines_then (heading-read p n small (omega (arith, most-transaction n h))) (instructions-read n (instructions p n) h (omega arith))))

  listing-read : Lines (listing p) (printed_lines p)
  unfolding listing
  listing-read =
      lines_then (lines_then (first_read p sound.rows.contents) (transactions_read p 255 (omega arith))) (bodies-read (bodies p) (omega arith))

-- ---- How many lines there are

transactions_length : (p : List ℕ) (n : ℕ) → length (transactions_of p n) ≤ n
unfolding transactions_of
transactions_length p zero = omega arith
transactions_length p (suc n) =
    simp length-append (omega (arith, transactions_length p n, one_at_most (has_number p (suc n) (tasks p)) (transaction_of (suc n))))

instructions-length : (p : List ℕ) (i n : ℕ) → length (instructions_of p i n) ≡ n
unfolding instructions_of
instructions-length p i zero = refl
instructions-length p i (suc n) = simp length-append (omega (arith, instructions-length p i n))

bodies-length : (p : List ℕ) → Sound p → (n : ℕ) → n ≤ bodies p → length (bodies_of p n) ≤ 258 * n
unfolding bodies_of
bodies-length p sound zero h = omega arith
bodies-length p sound (suc n) h =
    simp length-append (omega (arith, bodies-length p sound n (omega arith), instructions-length p n (instructions p n), most_instructions p sound n h))

printed_lines_length : (p : List ℕ) → Sound p → length (printed_lines p) ≤ 12641
printed_lines_length p sound =
    let c = sound.rows.contents in
    simp length-append (omega (arith, transactions_length p 255, bodies-length p sound (bodies p) (omega arith), c.most_tasks, c.most_events))

-- ---- What is claimed

last_line : lines_from start [] ≡ flat (blank ∷ [])
unfolding lines_from finished last if_right ended ended_by numbers statement start flat pick
last_line = refl

-- the text is read as the lines
pub lines_of_listing : (p : List ℕ) → check p ≡ Ok tt → lines (listing p) ≡ flat (expected p)
unfolding lines expected
lines_of_listing p e =
    rw (append-nil, last_line) at ((listing-read p (check-passed p e)).lines []) ∙ sym (flat_append (printed_lines p) (blank ∷ []))

-- so many of them
pub count_of_listing : (p : List ℕ) → check p ≡ Ok tt → line_count (listing p) ≡ length (expected p)
unfolding expected line_count
count_of_listing p e =
    rw append-nil at ((listing-read p (check-passed p e)).count []) ∙ sym (length-append (printed_lines p) (blank ∷ []))

-- and there is room for it and for them
pub listing-fits : (p : List ℕ) → check p ≡ Ok tt → (leb (length (listing p)) 1048576 and leb (line_count (listing p)) 65536) ≡ true
unfolding expected
listing-fits p e =
    let sound = check-passed p e in
    let most = printed_lines_length p sound in
    and_true (le-leb (length (listing p)) 1048576 (omega (arith, (listing-read p sound).short)))
    (le-leb (line_count (listing p)) 65536 (omega (arith, count_of_listing p e, length-append (printed_lines p) (blank ∷ []))))
