-- What an accepted check gives beside crates/model/specs/Accepted.antt: where each body starts, by the instructions before it, and each
-- instruction's fields. Assumes nothing.
use Rattle.model.specs.Types.{Ok}
use Prim.Native.Nat.{ℕ, zero, suc, ◌+◌, ◌*◌, ◌≤◌, ◌<◌}
use mathlib.Core.List.{List}
use mathlib.Core.Path.{◌≡◌, refl}
use native.Mathlib.Nat.{zero-add}
use native.Mathlib.Omega.{arith}
use borrow.Author.Tests.{leb-true, eqb-true, lt-ltb, le-ltb}
use lib.Dec.{ltb}
use Rattle.listing.proofs.ListingLaws.{sound_printable}
use Rattle.model.proofs.ProgramLaws.{check-passed, row-passed, due-first, due-next}
use Rattle.model.proofs.TestLaws.{pick_true, pick-false, must-passed, must_then, then_first, then_rest, each-passed}
use Rattle.model.specs.Accepted.{Contents, Sound}
use Rattle.model.specs.Check.{contents_rule, rows, row_rule, row_usable, limits, due, instruction_rule, check}
use Rattle.model.specs.Program.{word, program_mark, tasks, total, bodies, start, instructions, transaction, bodies_start, code, operand}
use Rattle.model.specs.Test.{pick}
use Rattle.round_trip.proofs.OpcodeLaws.{Coded, coded}

-- the instructions of the first i bodies
unfoldable pub instructions_before : List ℕ → ℕ → ℕ
instructions_before p zero = 0
instructions_before p (suc i) = instructions_before p i + instructions p i

pub record Whole (p : List ℕ) : Type 0 where
  pub contents : Contents p
  pub mark : word p 0 ≡ program_mark
  pub start_is : (i : ℕ) → i < bodies p → start p i ≡ bodies_start p + 2 * instructions_before p i
  pub total_is : total p ≡ bodies_start p + 2 * instructions_before p (bodies p)
  pub few : (i : ℕ) → i < bodies p → instructions p i ≤ 256
  pub task_number : (i : ℕ) → i < tasks p → transaction p i ≤ 255
  pub event_number : (i : ℕ) → i < bodies p → tasks p ≤ i → transaction p i ≡ 0
  pub fields : (i j : ℕ) → i < bodies p → j < instructions p i → Coded p i (code p i j) (operand p i j)

module _ (p : List ℕ) (passed : check p ≡ Ok tt) where
  sound : Sound p
  sound = check-passed p passed

  mark_is : word p 0 ≡ program_mark
  unfolding contents_rule
  mark_is = eqb-true _ _ (must_then _ _ _ (must_then _ _ _ (must_then _ _ _ sound.head).1).1).0

  rows_are : rows p ≡ Ok tt
  unfolding check
  rows_are = then_first _ _ (then_rest _ _ passed)

  start-due : (i : ℕ) → i < bodies p → start p i ≡ due p i
  unfolding rows row_rule
  start-due i h =
      let row = rw zero-add at (each-passed (row_rule p) 0 (bodies p) i (then_first _ _ (then_rest _ _ rows_are)) h) in
      eqb-true _ _ (must-passed _ _ (then_first _ _ row))

  due_is : (i : ℕ) → i ≤ bodies p → due p i ≡ bodies_start p + 2 * instructions_before p i
  unfolding instructions_before
  due_is zero h = omega (arith, due-first p {i = 0} refl)
  due_is (suc i) h = omega (arith, due-next p i {i = suc i} refl, start-due i h, due_is i (omega arith))

  ends-at-total : due p (bodies p) ≡ total p
  unfolding rows
  ends-at-total = eqb-true _ _ (must-passed _ _ (then_rest _ _ (then_rest _ _ rows_are)))

  number_is : (i : ℕ) → i < bodies p → transaction p i ≤ pick (ltb i (tasks p)) 255 0
  unfolding row_usable limits
  number_is i h = leb-true _ _ (must-passed _ _ (then_rest _ _ (then_rest _ _ (then_first _ _ (sound.row i h)))))

  fields_are : (i j : ℕ) → i < bodies p → j < instructions p i → Coded p i (code p i j) (operand p i j)
  unfolding instruction_rule
  fields_are i j h l =
      coded p i (code p i j) (operand p i j) sound.rows.contents (row-passed p i (sound.row i h)).most_instructions
      (((sound_printable p sound).body i h).known j l) (must-passed _ _ (then_first _ _ (sound.rule i j h l)))

  pub whole : Whole p
  whole =
      record {
        contents = sound.rows.contents;
        mark = mark_is;
        start_is = λ i h. omega (arith, start-due i h, due_is i (omega arith));
        total_is = omega (arith, ends-at-total, due_is (bodies p) (omega arith));
        few = λ i h. (row-passed p i (sound.row i h)).most_instructions;
        task_number =
            λ i h.
            omega (arith, number_is i (omega arith), pick_true {A = ℕ} 255 0 (lt-ltb i (tasks p) h));
        event_number =
            λ i h event.
            omega (arith, number_is i h, pick-false {A = ℕ} 255 0 (le-ltb i (tasks p) event));
        fields = fields_are;
      }

-- the bodies' words fit
pub before_few : {p : List ℕ} → Whole p → (i : ℕ) → i ≤ bodies p → instructions_before p i ≤ 256 * i
unfolding instructions_before
before_few whole zero h = omega arith
before_few whole (suc i) h = omega (arith, before_few whole i (omega arith), whole.few i h)
