-- The checks of the program and of the store's contents refuse with a number from 1 to 6 alone: `Low`. So what meets 7, 23 or 24 is
-- none of them, which is all that LowestCalls and Repeats ask of these checks. Each law is named after the check that it speaks of.
-- Assumes nothing.
use Prim.Native.Nat.{ℕ}
use mathlib.Core.Path.{◌≡◌, refl}
use mathlib.Core.Bool.{Bool, true}
use mathlib.Core.List.{List}
use lib.Dec.{leb}
use Rattle.model.proofs.TestLaws.{pick_case, Refuses, refuses_accepted, refuses_must, refuses_then, refuses_each}
use Rattle.model.specs.Answer.{refusal}
use Rattle.model.specs.Check.{contents_rule, rows_inside_rule, limits, row_rule, rows, row_usable, instruction_rule, body_rule, check}
use Rattle.model.specs.Device.{named_row}
use Rattle.model.specs.Store.{store_rule}
use Rattle.model.specs.Test.{pick, must, ◌then◌}
use Rattle.model.specs.Types.{Checked, Effect, Ok, Refusal}

abbrev IsLow : Refusal → Type 0
IsLow r = leb (refusal r).number 6 ≡ true

abbrev pub Low : Checked → Type 0
Low c = Refuses IsLow c

-- nine tests in a row
low_nine : (a b c d e f g h i : Bool) (q r s t u v w x y : Refusal) → IsLow q → IsLow r → IsLow s → IsLow t → IsLow u → IsLow v → IsLow w → IsLow x → IsLow y
    → Low (must a q then must b r then must c s then must d t then must e u then must f v then must g w then must h x then must i y)
low_nine a b c d e f g h i q r s t u v w x y j k l m n o p z z' =
    refuses_then _ _ (refuses_must a q (λ _. j))
    (refuses_then _ _ (refuses_must b r (λ _. k))
    (refuses_then _ _ (refuses_must c s (λ _. l))
    (refuses_then _ _ (refuses_must d t (λ _. m))
    (refuses_then _ _ (refuses_must e u (λ _. n))
    (refuses_then _ _ (refuses_must f v (λ _. o))
    (refuses_then _ _ (refuses_must g w (λ _. p)) (refuses_then _ _ (refuses_must h x (λ _. z)) (refuses_must i y (λ _. z')))))))))

pub low-contents : (p : List ℕ) → Low (contents_rule p)
unfolding contents_rule refusal
low-contents p = low_nine _ _ _ _ _ _ _ _ _ _ _ _ _ _ _ _ _ _ refl refl refl refl refl refl refl refl refl

pub low-store : (p s : List ℕ) → Low (store_rule p s)
unfolding store_rule refusal
low-store p s = low_nine _ _ _ _ _ _ _ _ _ _ _ _ _ _ _ _ _ _ refl refl refl refl refl refl refl refl refl

low-row : (b : Bool) (i : ℕ) → Low (must b (Refusal.Row i))
unfolding refusal
low-row b i = refuses_must b (Refusal.Row i) (λ _. refl)

low-code : (b : Bool) (i j : ℕ) → Low (must b (Refusal.Instruction i j))
unfolding refusal
low-code b i j = refuses_must b (Refusal.Instruction i j) (λ _. refl)

pub low-inside : (p : List ℕ) → Low (rows_inside_rule p)
unfolding rows_inside_rule
low-inside p = low-row _ 0

low-limits : (p : List ℕ) (i : ℕ) → Low (limits p i)
unfolding limits
low-limits p i = refuses_then _ _ (low-row _ i) (refuses_then _ _ (low-row _ i) (low-row _ i))

pub low_used : (p : List ℕ) (i : ℕ) → Low (row_usable p i)
unfolding row_usable
low_used p i = refuses_then _ _ (low-limits p i) (refuses_then _ _ (low-row _ i) (low-row _ i))

low_rows : (p : List ℕ) → Low (rows p)
unfolding rows row_rule
low_rows p =
    refuses_then _ _ (low-inside p)
    (refuses_then _ _ (refuses_each (row_rule p) 0 _ (λ i. refuses_then _ _ (low-row _ i) (low-limits p i))) (low-row _ _))

low-instruction : (p : List ℕ) (i j : ℕ) → Low (instruction_rule p i j)
unfolding instruction_rule
low-instruction p i j = refuses_then _ _ (low-code _ i j) (low-code _ i j)

pub low-check : (p : List ℕ) → Low (check p)
unfolding check body_rule
low-check p =
    refuses_then _ _ (low-contents p)
    (refuses_then _ _ (low_rows p) (refuses_each (body_rule p) 0 _ (λ i. refuses_each (instruction_rule p i) 0 _ (low-instruction p i))))

low-named : (p : List ℕ) (f : Effect) → Low (named_row p f)
unfolding named_row
low-named p (Effect.Compute a x) = refuses_accepted
low-named p (Effect.Jump k) = refuses_accepted
low-named p (Effect.Load a x) = refuses_accepted
low-named p (Effect.Save x y) = refuses_accepted
low-named p (Effect.EndTask k) = low_used p k
low-named p Effect.EndEvent = refuses_accepted
low-named p Effect.Unknown = refuses_accepted

-- the checks of a body's row, its instruction and the row that it names
pub low-body : (p : List ℕ) (i j : ℕ) (there : Bool) (f : Effect) → Low (pick there (instruction_rule p i j then named_row p f) (Ok tt))
low-body p i j there f = pick_case Low (λ _. refuses_then _ _ (low-instruction p i j) (low-named p f)) (λ _. refuses_accepted)
