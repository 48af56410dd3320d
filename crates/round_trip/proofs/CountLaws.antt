-- Laws of how many tasks, events, bodies and instructions stand above a line: one law counts any class, body by body, and each of the four is
-- such a class. Assumes nothing.
use Prim.Native.Nat.{ℕ, zero, suc, ◌+◌, ◌-◌, ◌*◌, ◌≤◌, ◌<◌, min}
use mathlib.Core.Bool.{Bool, true, false}
use mathlib.Core.List.{List}
use mathlib.Core.Path.{◌≡◌, refl, sym, ◌∙◌}
use native.Mathlib.Nat.{add-zero, add-suc}
use native.Mathlib.Omega.{arith}
use borrow.Author.Tests.{ltb-true, ltb-false}
use lib.Dec.{eqb}
use Rattle.assembly.proofs.LineLaws.{count_more, one-instruction, not_body}
use Rattle.assembly.specs.Lines.{line_at, lines_at, task_line, event_line, body_line, instruction_line, is_body, is_instruction, is_of, one, count, count_from}
use Rattle.assembly.specs.Lines.{Line}
use Rattle.listing.specs.Listing.{task_name, event_name, transaction_name, has_number}
use Rattle.model.proofs.TestLaws.{pick_case}
use Rattle.model.specs.Program.{tasks, bodies, instructions, transaction}
use Rattle.model.specs.Test.{pick, both}
use Rattle.tokens.specs.Tokens.{named}
use Rattle.round_trip.specs.Expected.{line, blank, memory_of, entry_of, transaction_of, heading_of, instruction_of}
use Rattle.round_trip.proofs.AcceptedLaws.{Whole, instructions_before}
use Rattle.round_trip.proofs.InstructionLaws.{is_instruction_lem, is_no_body, is_none_other}
use Rattle.round_trip.proofs.LineLaws.{room, size, transaction_at, body_at, code_at, first-transaction, next-transaction, no_transaction_lem, first_body, next-body, lines_are, at-memory, at_entry, at-transaction, at-blank, at-heading, at-instruction}

-- ---- The headings of a task and of an event

abbrev pub task_heading : List ℕ → ℕ → Line
task_heading p i = line 0 task_line (named (task_name i)) (pick (eqb (transaction p i) 0) 0 (named (transaction_name (transaction p i)))) 0

abbrev pub event_heading : List ℕ → ℕ → Line
event_heading p i = line 0 event_line (named (event_name (i - tasks p))) 0 0

pub heading_case : (p : List ℕ) (i : ℕ) (P : Line → Type 0) → (i < tasks p → P (task_heading p i)) → (tasks p ≤ i → P (event_heading p i)) → P (heading_of p i)
unfolding heading_of
heading_case p i P task event = pick_case P (λ e. task (ltb-true _ _ e)) (λ e. event (ltb-false _ _ e))

pub heading-body : (p : List ℕ) (i : ℕ) → is_body (heading_of p i) ≡ true
unfolding is_body both
heading-body p i = heading_case p i (λ g. is_body g ≡ true) (λ _. refl) (λ _. refl)

-- ---- Lines of a class above line x

abbrev pub above : List ℕ → ℕ → ℕ → ℕ
above p class x = count class (lines_at (room p) 0 x)

-- h is how many are above body i, where w of each instruction are
pub record Tally (p : List ℕ) (class w : ℕ) (h : ℕ → ℕ) : Type 0 where
  pub first : h 0 ≡ 0
  pub front : (n : ℕ) → one class (memory_of p) + one class (entry_of p) + one class (transaction_of n) + one class blank ≡ 0
  pub heading : (i : ℕ) → i < bodies p → h (suc i) ≡ h i + one class (heading_of p i) + w * instructions p i
  pub instruction : (i j : ℕ) → i < bodies p → j < instructions p i → one class (instruction_of p i j) ≡ w

module _ {p : List ℕ} {class w : ℕ} {h : ℕ → ℕ} (t : Tally p class w h) where
  above_next : (x : ℕ) (l : Line) → line_at (room p) x ≡ l → above p class (suc x) ≡ above p class x + one class l
  above_next x l e = rw e at (count_more class (room p) x)

  above_transactions : (n : ℕ) → n ≤ 255 → above p class (transaction_at p n) ≡ 0
  unfolding lines_at count_from
  above_transactions zero l =
      rw first-transaction (omega (arith, above_next 0 (memory_of p) (at-memory p), above_next 1 (entry_of p) (at_entry p), t.front 0))
  above_transactions (suc n) l = go (has_number p (suc n) (tasks p)) refl (above_transactions n (omega arith)) where
    go : (b : Bool) → has_number p (suc n) (tasks p) ≡ b → above p class (transaction_at p n) ≡ 0 → above p class (transaction_at p (suc n)) ≡ 0
    go true has before =
        rw (next-transaction p n has)
        (omega (arith, above_next (transaction_at p n) (transaction_of (suc n)) (at-transaction p n l has), t.front (suc n)))
    go false has before = rw (no_transaction_lem p n has) before

  above_blank : (i : ℕ) → i ≤ bodies p → above p class (suc (body_at p i)) ≡ above p class (body_at p i)
  above_blank i l = omega (arith, above_next (body_at p i) blank (at-blank p i l), t.front 0)

  above_instructions : (i j : ℕ) → i < bodies p → j ≤ instructions p i
      → above p class (code_at p i + j) ≡ above p class (body_at p i) + one class (heading_of p i) + w * j
  above_instructions i zero l m =
      rw add-zero (omega (arith, above_blank i (omega arith), above_next (suc (body_at p i)) (heading_of p i) (at-heading p i l)))
  above_instructions i (suc j) l m =
      rw (add-suc (code_at p i) j)
      (omega
      (arith, above_next (code_at p i + j) (instruction_of p i j) (at-instruction p i j l m), t.instruction i j l m, above_instructions i j l (omega arith)))

  above_body : (i : ℕ) → i ≤ bodies p → above p class (body_at p i) ≡ h i
  above_body zero l = rw first_body (above_transactions 255 (omega arith) ∙ sym t.first)
  above_body (suc i) l =
      rw (next-body p i) (above_instructions i (instructions p i) l (omega arith) ∙ omega (arith, above_body i (omega arith), t.heading i l))

  pub above_heading : (i : ℕ) → i ≤ bodies p → above p class (suc (body_at p i)) ≡ h i
  above_heading i l = above_blank i l ∙ above_body i l

  pub above_instruction : (i j : ℕ) → i < bodies p → j ≤ instructions p i → above p class (code_at p i + j) ≡ h i + one class (heading_of p i) + w * j
  above_instruction i j l m = omega (arith, above_instructions i j l m, above_body i (omega arith))

  pub above_end : above p class (size p) ≡ h (bodies p)
  above_end = rw (lines_are p) (above_heading (bodies p) (omega arith))

-- ---- The four classes

module _ {p : List ℕ} (whole : Whole p) where
  pub tasks_above : Tally p task_line 0 (λ i. min i (tasks p))
  unfolding one is_of pick
  tasks_above =
      record {
        first = omega arith;
        front = λ n. refl;
        heading =
            λ i l.
            heading_case p i (λ g. min (suc i) (tasks p) ≡ min i (tasks p) + one task_line g + 0 * instructions p i) (λ task. omega arith) (λ event. omega arith);
        instruction = λ i j l m. rw (is_none_other whole i j l m 21 (omega arith));
      }

  pub events_above : Tally p event_line 0 (λ i. i - tasks p)
  unfolding one is_of pick
  events_above =
      record {
        first = omega arith;
        front = λ n. refl;
        heading =
            λ i l.
            heading_case p i (λ g. suc i - tasks p ≡ i - tasks p + one event_line g + 0 * instructions p i) (λ task. omega arith) (λ event. omega arith);
        instruction = λ i j l m. rw (is_none_other whole i j l m 22 (omega arith));
      }

  pub bodies_above : Tally p body_line 0 (λ i. i)
  unfolding one is_of is_body both pick
  bodies_above =
      record {
        first = refl;
        front = λ n. refl;
        heading =
            λ i l. heading_case p i (λ g. suc i ≡ i + one body_line g + 0 * instructions p i) (λ task. omega arith) (λ event. omega arith);
        instruction = λ i j l m. not_body (instruction_of p i j) (is_no_body whole i j l m);
      }

  pub instructions_above : Tally p instruction_line 1 (instructions_before p)
  unfolding one is_of is_instruction both pick instructions_before
  instructions_above =
      record {
        first = refl;
        front = λ n. refl;
        heading =
            λ i l.
            heading_case p i (λ g. instructions_before p (suc i) ≡ instructions_before p i + one instruction_line g + 1 * instructions p i) (λ task. omega arith)
            (λ event. omega arith);
        instruction = λ i j l m. one-instruction (instruction_of p i j) (is_instruction_lem whole i j l m);
      }
