-- Laws of lines that are looked through one after the other. Assumes nothing.
use Prim.Native.Nat.{ℕ, zero, suc, ◌+◌, ◌*◌, ◌-◌, ◌≤◌, ◌<◌}
use mathlib.Core.List.{List, [], ◌∷◌}
use mathlib.Core.Path.{◌≡◌, refl, ap, ◌∙◌}
use native.Mathlib.Numerals.{add-one}
use lib.ListN.{length, get_or, take, drop, length-drop}
use lib.Seq.{drop-cons, take-length}
use Rattle.std.proofs.lemmas.List.{drop_all}
use Rattle.tokens.specs.Tokens.{all_numbers}
use Rattle.tokens.specs.declared.SourceLine.{SourceLine}
use native.Mathlib.Omega.{arith}
use mathlib.Core.Bool.{true, false}
use borrow.Author.Tests.{leb-true, eq-eqb, ne_eqb}
use Rattle.model.proofs.TestLaws.{and_left, and_right}
use Rattle.model.specs.Test.{pick, ◌and◌}
use Rattle.tokens.specs.Uses.{is_jump}
use lib.Dec.{eqb}
use mathlib.Core.Logic.{◌≢◌}
use Rattle.assembly.specs.Lines.{Line, line_at, lines_at, body_line, instruction_line, is_body, is_instruction, is_of, one, count_from, count, as_line, as_lines, body_count, numbered, transaction_value, label_number, has_label, given, place_of, is_named}

-- the lines from i up to n, where there is one: it and those behind it
pub lines_step : (room : List ℕ) (n i : ℕ) → i < n → lines_at room i (n - i) ≡ line_at room i ∷ lines_at room (suc i) (n - suc i)
unfolding lines_at
lines_step room n i l = let e : n - i ≡ suc (n - suc i) = omega arith in ap (lines_at room i) e

-- and where there is none
pub lines_end : (room : List ℕ) (n i : ℕ) → n ≤ i → lines_at room i (n - i) ≡ []
unfolding lines_at
lines_end room n i l = let e : n - i ≡ zero = omega arith in ap (lines_at room i) e

pub lines-all : (room : List ℕ) (n : ℕ) → lines_at room 0 (n - 0) ≡ lines_at room 0 n
lines-all room n = let e : n - 0 ≡ n = omega arith in ap (lines_at room 0) e

pub instruction_in : (l : Line) → is_instruction l ≡ true → (1 ≤ l.statement) × (l.statement ≤ 17)
unfolding is_instruction
instruction_in l e = (leb-true _ _ (and_left _ _ e), leb-true _ _ (and_right _ _ e))

-- ---- How many lines are of a class

pub one-instruction : (l : Line) → is_instruction l ≡ true → one instruction_line l ≡ 1
unfolding one is_of pick
one-instruction l e = rw e

pub one-body : (l : Line) → is_body l ≡ true → one body_line l ≡ 1
unfolding one is_of pick
one-body l e = rw e

count_beside : (class : ℕ) (ls : List Line) (n : ℕ) → count_from class ls n ≡ n + count_from class ls 0
unfolding count_from
count_beside class [] n = omega arith
count_beside class (l ∷ ls) n = omega (arith, count_beside class ls (n + one class l), count_beside class ls (0 + one class l))

-- of a line more
count_snoc : (class : ℕ) (room : List ℕ) (a k : ℕ)
    → count class (lines_at room a (suc k)) ≡ count class (lines_at room a k) + one class (line_at room (a + k))
unfolding lines_at count_from
count_snoc class room a zero = let e : a + zero ≡ a = omega arith in rw e (omega arith)
count_snoc class room a (suc k) =
    let l = line_at room a in
    let e : a + suc k ≡ suc a + k = omega arith in
    rw e (omega (arith, count_beside class (lines_at room (suc a) (suc k)) (0 + one class l), count_beside class (lines_at room (suc a) k) (0 + one class l), count_snoc class room (suc a) k))

pub count_more : (class : ℕ) (room : List ℕ) (i : ℕ)
    → count class (lines_at room 0 (suc i)) ≡ count class (lines_at room 0 i) + one class (line_at room i)
count_more class room i = let e : 0 + i ≡ i = omega arith in rw e at (count_snoc class room 0 i)

-- of fewer lines
pub count_grows : (class : ℕ) (room : List ℕ) (i k : ℕ) → count class (lines_at room 0 i) ≤ count class (lines_at room 0 (i + k))
count_grows class room i zero = let e : i + zero ≡ i = omega arith in rw e (omega arith)
count_grows class room i (suc k) =
    let e : i + suc k ≡ suc (i + k) = omega arith in rw e (omega (arith, count_grows class room i k, count_more class room (i + k)))

pub not_instruction : (l : Line) → is_instruction l ≡ false → one instruction_line l ≡ 0
unfolding one is_of pick
not_instruction l e = rw e

pub not_body : (l : Line) → is_body l ≡ false → one body_line l ≡ 0
unfolding one is_of pick
not_body l e = rw e

-- ---- Lines of crate tokens, and the numbers that they are

numbers-suc : (l : SourceLine) (ls : List SourceLine) (i : ℕ) → line_at (all_numbers (l ∷ ls)) (suc i) ≡ line_at (all_numbers ls) i
unfolding line_at all_numbers
numbers-suc l ls i =
    let first : 6 * suc i ≡ suc (suc (suc (suc (suc (suc (6 * i)))))) = omega arith in
    let next : (k : ℕ) → 6 * suc i + k ≡ suc (suc (suc (suc (suc (suc (6 * i + k)))))) = λ k. omega arith in
    rw (next 1, next 2, next 3, next 4, next 5, first)

pub line_in : (ls : List SourceLine) (i : ℕ) (d : SourceLine) → i < length ls → line_at (all_numbers ls) i ≡ as_line (get_or ls i d)
unfolding line_at all_numbers
line_in [] i d h = absurd (omega arith)
line_in (l ∷ ls) zero d h = refl
line_in (l ∷ ls) (suc i) d h = numbers-suc l ls i ∙ line_in ls i d (omega arith)

-- lines from i on, as the definitions look them up
lines_suc : (l : SourceLine) (ls : List SourceLine) (i k : ℕ) → lines_at (all_numbers (l ∷ ls)) (suc i) k ≡ lines_at (all_numbers ls) i k
unfolding lines_at
lines_suc l ls i zero = refl
lines_suc l ls i (suc k) = rw (numbers-suc l ls i, lines_suc l ls (suc i) k)

pub lines_in : (ls : List SourceLine) (i k : ℕ) → i + k ≤ length ls → lines_at (all_numbers ls) i k ≡ as_lines (take k (drop i ls))
unfolding lines_at as_lines
lines_in ls zero zero h = refl
lines_in [] zero (suc k) h = absurd (omega arith)
lines_in (l ∷ ls) zero (suc k) h =
    let first : line_at (all_numbers (l ∷ ls)) 0 ≡ as_line l = line_in (l ∷ ls) 0 l (omega arith) in
    rw (first, lines_suc l ls 0 k) (ap (λ (xs : List Line). as_line l ∷ xs) (lines_in ls 0 k (omega arith)))
lines_in [] (suc i) k h = absurd (omega arith)
lines_in (l ∷ ls) (suc i) k h = lines_suc l ls i k ∙ lines_in ls i k (omega arith)

-- all of them, the first ones, and those from i on
pub lines_whole : (ls : List SourceLine) → lines_at (all_numbers ls) 0 (length ls) ≡ as_lines ls
lines_whole ls = lines_in ls 0 (length ls) (omega arith) ∙ ap as_lines (take-length ls)

pub lines_first : (ls : List SourceLine) (i : ℕ) → i ≤ length ls → lines_at (all_numbers ls) 0 i ≡ as_lines (take i ls)
lines_first ls i h = lines_in ls 0 i (omega arith)

pub lines_rest : (ls : List SourceLine) (i : ℕ) → i ≤ length ls → lines_at (all_numbers ls) i (length ls - i) ≡ as_lines (drop i ls)
lines_rest ls i h =
    lines_in ls i (length ls - i) (omega arith) ∙ ap as_lines (let e : length ls - i ≡ length (drop i ls) = omega (arith, length-drop i ls) in ap (λ (k : ℕ). take k (drop i ls)) e ∙ take-length (drop i ls))

pub ruleset room = (line_in, lines_whole, lines_first, lines_rest, lines_in)

-- how many of the lines up to i, and i itself, are of a class
pub count_next : (class : ℕ) (room : List ℕ) (i : ℕ) → count class (lines_at room 0 (i + 1)) ≡ count class (lines_at room 0 i) + one class (line_at room i)
count_next class room i = rw add-one (count_more class room i)

pub count_room : (class : ℕ) (ls : List SourceLine) (i : ℕ) → i < length ls
    → count class (lines_at (all_numbers ls) 0 i) + one class (line_at (all_numbers ls) i) ≤ count class (as_lines ls)
count_room class ls i h =
    let room = all_numbers ls in
    let e : suc i + (length ls - suc i) ≡ length ls = omega arith in
    omega (arith, count_more class room i, rw e at (count_grows class room (suc i) (length ls - suc i)), ap (count class) (lines_whole ls))

-- ---- One line after the other

step : (ls : List SourceLine) (i : ℕ) (d : SourceLine) → i < length ls → as_lines (drop i ls) ≡ as_line (get_or ls i d) ∷ as_lines (drop (i + 1) ls)
unfolding as_lines
step ls i d h = rw (add-one, drop-cons ls i d) refl

none_left : (ls : List SourceLine) (i : ℕ) → length ls ≤ i → as_lines (drop i ls) ≡ []
unfolding as_lines
none_left ls i h = rw (drop_all i ls h) refl

module _ (ls : List SourceLine) (i : ℕ) where
  pub count_none : (class n : ℕ) → length ls ≤ i → count_from class (as_lines (drop i ls)) n ≡ n
  unfolding count_from
  count_none class n h = rw (none_left ls i h) refl

  pub body_none : (n : ℕ) → length ls ≤ i → body_count (as_lines (drop i ls)) n ≡ n
  unfolding body_count
  body_none n h = rw (none_left ls i h) refl

  pub numbered_none : (statement name n : ℕ) → length ls ≤ i → numbered statement name (as_lines (drop i ls)) n ≡ 65536
  unfolding numbered
  numbered_none statement name n h = rw (none_left ls i h) refl

  pub transaction_none : (name : ℕ) → length ls ≤ i → transaction_value name (as_lines (drop i ls)) ≡ 65536
  unfolding transaction_value
  transaction_none name h = rw (none_left ls i h) refl

  pub label_none : (name n : ℕ) → length ls ≤ i → label_number name (as_lines (drop i ls)) n ≡ 65536
  unfolding label_number
  label_none name n h = rw (none_left ls i h) refl

  pub no_label : (name : ℕ) → length ls ≤ i → has_label name (as_lines (drop i ls)) ≡ false
  unfolding has_label
  no_label name h = rw (none_left ls i h) refl

  pub given_none : (statement : ℕ) → length ls ≤ i → given statement (as_lines (drop i ls)) ≡ 0
  unfolding given
  given_none statement h = rw (none_left ls i h) refl

  pub place_none : (class k from last : ℕ) → length ls ≤ i → place_of class k (as_lines (drop i ls)) from last ≡ last
  unfolding place_of
  place_none class k from last h = rw (none_left ls i h) refl

  module _ (d : SourceLine) (h : i < length ls) where
    abbrev here : Line
    here = as_line (get_or ls i d)

    pub count_step : (class n : ℕ) → count_from class (as_lines (drop i ls)) n ≡ count_from class (as_lines (drop (i + 1) ls)) (n + one class here)
    unfolding count_from
    count_step class n = rw (step ls i d h) refl

    pub body_here : (n : ℕ) → is_body here ≡ true → body_count (as_lines (drop i ls)) n ≡ n
    unfolding body_count pick
    body_here n e = rw (step ls i d h, e) refl

    pub body_step : (n : ℕ) → is_body here ≡ false
        → body_count (as_lines (drop i ls)) n ≡ body_count (as_lines (drop (i + 1) ls)) (n + one instruction_line here)
    unfolding body_count pick
    body_step n e = rw (step ls i d h, e) refl

    pub numbered_here : (statement name n : ℕ) → is_named statement name here ≡ true → numbered statement name (as_lines (drop i ls)) n ≡ n
    unfolding numbered pick
    numbered_here statement name n e = rw (step ls i d h, e) refl

    pub numbered_step : (statement name n : ℕ) → is_named statement name here ≡ false
        → numbered statement name (as_lines (drop i ls)) n ≡ numbered statement name (as_lines (drop (i + 1) ls)) (n + one statement here)
    unfolding numbered pick
    numbered_step statement name n e = rw (step ls i d h, e) refl

    pub transaction_here : (name : ℕ) → is_named 20 name here ≡ true → transaction_value name (as_lines (drop i ls)) ≡ here.second - 1
    unfolding transaction_value pick
    transaction_here name e = rw (step ls i d h, e) refl

    pub transaction_step : (name : ℕ) → is_named 20 name here ≡ false
        → transaction_value name (as_lines (drop i ls)) ≡ transaction_value name (as_lines (drop (i + 1) ls))
    unfolding transaction_value pick
    transaction_step name e = rw (step ls i d h, e) refl

    pub label_behind : (name n : ℕ) → is_body here ≡ true → label_number name (as_lines (drop i ls)) n ≡ 65536
    unfolding label_number pick
    label_behind name n e = rw (step ls i d h, e) refl

    pub label_here : (name n : ℕ) → is_body here ≡ false → here.label ≡ name → label_number name (as_lines (drop i ls)) n ≡ n
    unfolding label_number pick
    label_here name n e f = rw (step ls i d h, e, eq-eqb _ _ f) refl

    pub label_step : (name n : ℕ) → is_body here ≡ false → here.label ≢ name
        → label_number name (as_lines (drop i ls)) n ≡ label_number name (as_lines (drop (i + 1) ls)) (n + one instruction_line here)
    unfolding label_number pick
    label_step name n e f = rw (step ls i d h, e, ne_eqb _ _ f) refl

    pub has_here : (name : ℕ) → here.label ≡ name → has_label name (as_lines (drop i ls)) ≡ true
    unfolding has_label pick
    has_here name f = rw (step ls i d h, eq-eqb _ _ f) refl

    pub has_step : (name : ℕ) → here.label ≢ name → has_label name (as_lines (drop i ls)) ≡ has_label name (as_lines (drop (i + 1) ls))
    unfolding has_label pick
    has_step name f = rw (step ls i d h, ne_eqb _ _ f) refl

    pub given_here : (statement : ℕ) → here.statement ≡ statement → given statement (as_lines (drop i ls)) ≡ here.first
    unfolding given pick
    given_here statement f = rw (step ls i d h, eq-eqb _ _ f) refl

    pub given_step : (statement : ℕ) → here.statement ≢ statement → given statement (as_lines (drop i ls)) ≡ given statement (as_lines (drop (i + 1) ls))
    unfolding given pick
    given_step statement f = rw (step ls i d h, ne_eqb _ _ f) refl

    pub place_here : (class k from last : ℕ) → (is_of class here and eqb k 0) ≡ true → place_of class k (as_lines (drop i ls)) from last ≡ from
    unfolding place_of pick
    place_here class k from last e = rw (step ls i d h, e) refl

    pub place_step : (class k from last : ℕ) → (is_of class here and eqb k 0) ≡ false
        → place_of class k (as_lines (drop i ls)) from last ≡ place_of class (k - one class here) (as_lines (drop (i + 1) ls)) (from + 1) last
    unfolding place_of pick
    place_step class k from last e = rw (step ls i d h, e, ← add-one from) refl

pub ruleset walk = (count_none, count_step, body_none, body_here, body_step, numbered_none, numbered_here, numbered_step, transaction_none, transaction_here, transaction_step, label_none, label_behind, label_here, label_step, no_label, has_here, has_step, given_none, given_here, given_step, place_none, place_here, place_step)

-- an instruction that jumps is one
pub jump_in : (l : Line) → (is_instruction l and is_jump (l.statement - 1)) ≡ true → (1 ≤ l.statement) × (l.statement ≤ 17)
jump_in l e = instruction_in l (and_left _ _ e)
