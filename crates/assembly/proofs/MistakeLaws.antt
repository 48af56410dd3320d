-- Laws of mistakes in a row, of which the first counts. Assumes nothing.
use Prim.Native.Nat.{ℕ, suc, ◌+◌, ◌-◌, ◌≤◌, ◌<◌}
use mathlib.Core.Bool.{Bool, true, false}
use mathlib.Core.Logic.{◌≢◌}
use mathlib.Core.Path.{◌≡◌, refl, sym, ap, ◌∙◌}
use native.Mathlib.Omega.{arith}
use borrow.Author.Tests.{eq-eqb, ne_eqb}
use Rattle.model.proofs.TestLaws.{pick_true, pick-false}
use Rattle.assembly.proofs.LineLaws.{line_in, lines_in, lines_first}
use Rattle.assembly.specs.Lines.{as_line, as_lines, line_at, is_body, body_start}
use Rattle.assembly.specs.Mistakes.{MistakeNumbers, or_else, mistake_if, kind_number, found_number, is_known, finds_known, mistake_at, mistake_numbers, or_next, own_mistake, among_mistake, first_own, first_among, label_mistake, label_mistake_of, place_mistake, place_mistake_of, name_mistake, name_mistake_of}
use Rattle.assembly.specs.declared.Mistake.{Mistake}
use Rattle.model.specs.Test.{pick}
use Rattle.tokens.specs.Tokens.{all_numbers}
use Rattle.tokens.specs.declared.SourceLine.{SourceLine}
use lib.Dec.{eqb}
use lib.ListN.{length, get_or, take, drop}
use mathlib.Core.List.{List}
use native.Mathlib.Numerals.{add-one}
use Rattle.assembly.specs.declared.MistakeKind.{MistakeKind}
use Rattle.tokens.specs.declared.Wrong.{Wrong}
use Rattle.std.specs.Prelude.{Result, Ok, Err}

-- a kind has a number from 1 on
pub some_kind : (kind : MistakeKind) → kind_number kind ≢ 0
some_kind (MistakeKind.Reading Wrong.Character) e = absurd (omega (arith, e))
some_kind (MistakeKind.Reading Wrong.NumberLarge) e = absurd (omega (arith, e))
some_kind (MistakeKind.Reading Wrong.NumberForm) e = absurd (omega (arith, e))
some_kind (MistakeKind.Reading Wrong.NameLong) e = absurd (omega (arith, e))
some_kind (MistakeKind.Reading Wrong.WordsMany) e = absurd (omega (arith, e))
some_kind (MistakeKind.Reading Wrong.Colon) e = absurd (omega (arith, e))
some_kind (MistakeKind.Unknown past) e = absurd (omega (arith, e))
some_kind MistakeKind.NoStatement e = absurd (omega (arith, e))
some_kind MistakeKind.WordCount e = absurd (omega (arith, e))
some_kind MistakeKind.NameDue e = absurd (omega (arith, e))
some_kind MistakeKind.NumberDue e = absurd (omega (arith, e))
some_kind MistakeKind.LabelPlace e = absurd (omega (arith, e))
some_kind MistakeKind.LabelTaken e = absurd (omega (arith, e))
some_kind MistakeKind.InstructionPlace e = absurd (omega (arith, e))
some_kind MistakeKind.TaskPlace e = absurd (omega (arith, e))
some_kind MistakeKind.NameTaken e = absurd (omega (arith, e))
some_kind MistakeKind.GivenAbove e = absurd (omega (arith, e))
some_kind MistakeKind.NoTask e = absurd (omega (arith, e))
some_kind MistakeKind.NoLabel e = absurd (omega (arith, e))
some_kind MistakeKind.NoTransaction e = absurd (omega (arith, e))
some_kind MistakeKind.NoMemory e = absurd (omega (arith, e))
some_kind MistakeKind.NoEntry e = absurd (omega (arith, e))
some_kind MistakeKind.ProgramLong e = absurd (omega (arith, e))
some_kind MistakeKind.TaskCount e = absurd (omega (arith, e))
some_kind MistakeKind.EventCount e = absurd (omega (arith, e))
some_kind MistakeKind.MemorySize e = absurd (omega (arith, e))
some_kind MistakeKind.NoTaskNumber e = absurd (omega (arith, e))
some_kind MistakeKind.BodySize e = absurd (omega (arith, e))
some_kind MistakeKind.TransactionLarge e = absurd (omega (arith, e))
some_kind MistakeKind.RegisterLarge e = absurd (omega (arith, e))
some_kind MistakeKind.ShiftLarge e = absurd (omega (arith, e))
some_kind MistakeKind.AddressLarge e = absurd (omega (arith, e))
some_kind MistakeKind.TargetLarge e = absurd (omega (arith, e))
some_kind MistakeKind.GoPlace e = absurd (omega (arith, e))
some_kind MistakeKind.DonePlace e = absurd (omega (arith, e))
some_kind MistakeKind.BodyEnd e = absurd (omega (arith, e))
some_kind MistakeKind.TextLong e = absurd (omega (arith, e))

-- a mistake is made, or not
pub is_made : {b : Bool} (m : ℕ) → b ≡ true → mistake_if b m ≡ m
unfolding mistake_if
is_made m e = pick_true _ _ e

pub not_made : {b : Bool} (m : ℕ) → b ≡ false → mistake_if b m ≡ 0
unfolding mistake_if
not_made m e = pick-false _ _ e

-- the first of two
pub first-counts : {m : ℕ} (n : ℕ) → m ≢ 0 → or_else m n ≡ m
unfolding or_else
first-counts n e = pick-false _ _ (ne_eqb _ _ e)

pub next-counts : {m : ℕ} (n : ℕ) → m ≡ 0 → or_else m n ≡ n
unfolding or_else
next-counts n e = pick_true _ _ (eq-eqb _ _ e)

pub made-first : {b : Bool} (k n : ℕ) → b ≡ true → or_else (mistake_if b (suc k)) n ≡ suc k
made-first k n e = ap (λ (m : ℕ). or_else m n) (is_made (suc k) e) ∙ first-counts n (λ z. absurd (omega (arith, z)))

pub not_made_first : {b : Bool} (m n : ℕ) → b ≡ false → or_else (mistake_if b m) n ≡ n
not_made_first m n e = next-counts n (not_made m e)

-- ---- What a function finds that makes the tests in turn

-- it finds a mistake where a test holds, the last one or one before others
pub makes : {b : Bool} (m : ℕ) → b ≡ true → m ≡ mistake_if b m
makes m h = sym (is_made m h)

pub makes_first : {b : Bool} (m n : ℕ) → 0 < m → b ≡ true → m ≡ or_else (mistake_if b m) n
makes_first m n some h = sym (ap (λ (k : ℕ). or_else k n) (is_made m h) ∙ first-counts n (λ z. absurd (omega (arith, z))))

-- and goes on where none does
pub goes : {b : Bool} {r n : ℕ} (m : ℕ) → b ≡ false → r ≡ n → r ≡ or_else (mistake_if b m) n
goes m h e = e ∙ sym (not_made_first m _ h)

pub finds_none : {b : Bool} (m : ℕ) → b ≡ false → 0 ≡ mistake_if b m
finds_none m h = sym (not_made m h)

-- what another function found
pub found_first : (x : Result Unit MistakeKind) (kind : MistakeKind) (m n : ℕ) → found_number x ≡ m → x ≡ Err kind → kind_number kind ≡ or_else m n
found_first x kind m n e h =
    let same : m ≡ kind_number kind = sym e ∙ ap found_number h in
    sym (first-counts n (λ z. some_kind kind (sym same ∙ z)) ∙ same)

pub found_nothing : (x : Result Unit MistakeKind) (u : Unit {0}) {r : ℕ} (m n : ℕ) → found_number x ≡ m → x ≡ Ok u → r ≡ n → r ≡ or_else m n
found_nothing x u m n e h g = g ∙ sym (next-counts n (sym e ∙ ap found_number h))

-- the kind that it found is known, where what it finds is
pub known_first : (x : Result Unit MistakeKind) (kind : MistakeKind) → finds_known x ≡ true → x ≡ Err kind → is_known kind ≡ true
known_first x kind e h = sym (ap finds_known h) ∙ e

pub ruleset in_turn = (makes, makes_first, goes, finds_none, found_first, found_nothing, known_first)

-- ---- With its line

module _ (x : Result Unit MistakeKind) (m : ℕ) (e : found_number x ≡ m) where
  pub at_none : (u : Unit {0}) (z : MistakeNumbers) → x ≡ Ok u → mistake_at 0 0 ≡ pick (eqb m 0) (mistake_at 0 0) z
  at_none u z h = sym (pick_true _ _ (eq-eqb _ _ (sym e ∙ ap found_number h)))

  pub at_next : (u : Unit {0}) (y z : MistakeNumbers) → x ≡ Ok u → pick (eqb m 0) y z ≡ y
  at_next u y z h = pick_true _ _ (eq-eqb _ _ (sym e ∙ ap found_number h))

  pub at_this : (kind : MistakeKind) (y : MistakeNumbers) (line : ℕ) → x ≡ Err kind → mistake_at line (kind_number kind) ≡ pick (eqb m 0) y (mistake_at line m)
  at_this kind y line h =
      let same : m ≡ kind_number kind = sym e ∙ ap found_number h in
      ap (mistake_at line) (sym same) ∙ sym (pick-false _ _ (ne_eqb _ _ (λ z. some_kind kind (sym same ∙ z))))

pub ruleset at_line = (at_none, at_this)

-- line by line
module _ (ls : List SourceLine) (i : ℕ) where
  pub own_end : length ls ≤ i → first_own (all_numbers ls) i (length ls - i) ≡ mistake_at 0 0
  unfolding first_own
  own_end h = let none : length ls - i ≡ 0 = omega arith in rw none refl

  pub among_end : length ls ≤ i → first_among (all_numbers ls) (length ls) i (length ls - i) ≡ mistake_at 0 0
  unfolding first_among
  among_end h = let none : length ls - i ≡ 0 = omega arith in rw none refl

  module _ (x : Result Unit MistakeKind) (h : i < length ls) where
    more : length ls - i ≡ suc (length ls - (i + 1))
    more = omega arith

    pub own_here : (d : SourceLine) (kind : MistakeKind) → found_number x ≡ own_mistake (as_line (get_or ls i d)) → x ≡ Err kind
        → mistake_at (i + 1) (kind_number kind) ≡ first_own (all_numbers ls) i (length ls - i)
    unfolding first_own
    own_here d kind e f = rw (more, line_in ls i d h) (rw (← add-one i) (at_this x _ e kind _ (i + 1) f))

    pub own_step : (d : SourceLine) (u : Unit {0}) → found_number x ≡ own_mistake (as_line (get_or ls i d)) → x ≡ Ok u
        → first_own (all_numbers ls) i (length ls - i) ≡ first_own (all_numbers ls) (i + 1) (length ls - (i + 1))
    unfolding first_own
    own_step d u e f = rw (more, line_in ls i d h) (rw (add-one i) (at_next x _ e u _ _ f))

    pub among_here : (kind : MistakeKind) (start : ℕ) → found_number x ≡ among_mistake (all_numbers ls) (length ls) start i → start ≡ body_start (all_numbers ls) i → x ≡ Err kind
        → mistake_at (i + 1) (kind_number kind) ≡ first_among (all_numbers ls) (length ls) i (length ls - i)
    unfolding first_among
    among_here kind start e s f = rw (more, ← s) (rw (← add-one i) (at_this x _ e kind _ (i + 1) f))

    pub among_step : (u : Unit {0}) (start : ℕ) → found_number x ≡ among_mistake (all_numbers ls) (length ls) start i → start ≡ body_start (all_numbers ls) i → x ≡ Ok u
        → first_among (all_numbers ls) (length ls) i (length ls - i) ≡ first_among (all_numbers ls) (length ls) (i + 1) (length ls - (i + 1))
    unfolding first_among
    among_step u start e s f = rw (more, ← s) (rw (add-one i) (at_next x _ e u _ _ f))

pub start_zero : (room : List ℕ) → 0 ≡ body_start room 0
unfolding body_start
start_zero room = refl

pub start_next : (room : List ℕ) (i start s : ℕ) → start ≡ body_start room i → s ≡ pick (is_body (line_at room i)) (i + 1) start → s ≡ body_start room (i + 1)
unfolding body_start
start_next room i start s e f = rw (add-one, ← e) (f ∙ rw (add-one i) refl)

pub ruleset own_in_turn = (own_end, own_here, own_step)

pub ruleset among_in_turn = (among_end, among_here, among_step, start_zero, start_next)

-- ---- The first of all

pub all_first : (x : Result Unit Mistake) (m : Mistake) (a b : MistakeNumbers) → mistake_numbers x ≡ a → x ≡ Err m → mistake_at m.line (kind_number m.kind) ≡ or_next a b
unfolding or_next
all_first x m a b e h =
    let same : a ≡ mistake_at m.line (kind_number m.kind) = sym e ∙ ap mistake_numbers h in
    rw same (sym (pick-false _ _ (ne_eqb _ _ (some_kind m.kind))))

pub all_next : (x : Result Unit Mistake) (u : Unit {0}) {r : MistakeNumbers} (a b : MistakeNumbers) → mistake_numbers x ≡ a → x ≡ Ok u → r ≡ b → r ≡ or_next a b
unfolding or_next
all_next x u a b e h g =
    let same : a ≡ mistake_at 0 0 = sym e ∙ ap mistake_numbers h in
    rw same (g ∙ sym (pick_true _ _ refl))

pub ruleset first_of_all = (all_first, all_next)

-- ---- A line among the others

module _ (ls : List SourceLine) (start i : ℕ) (d : SourceLine) (h : i < length ls) where
  pub label_is : start ≤ i
      → label_mistake (all_numbers ls) start i ≡ label_mistake_of start (as_line (get_or ls i d)) (as_lines (take (i - start) (drop start ls)))
  unfolding label_mistake
  label_is l = rw (line_in ls i d h, lines_in ls start (i - start) (omega arith)) refl

  pub place_is : place_mistake (all_numbers ls) start i ≡ place_mistake_of start (as_line (get_or ls i d)) (as_lines (take i ls))
  unfolding place_mistake
  place_is = rw (line_in ls i d h, lines_first ls i (omega arith)) refl

  pub name_is : name_mistake (all_numbers ls) (length ls) start i ≡ name_mistake_of (all_numbers ls) (length ls) start (as_line (get_or ls i d))
  unfolding name_mistake
  name_is = rw (line_in ls i d h) refl

pub ruleset placed = (label_is, place_is, name_is)
