-- Laws of a line's names, of how many numbers it has and how large they are, and of what a reading holds. Assumes nothing.
use Prim.Native.Nat.{ℕ, zero, suc, ◌+◌, ◌-◌, ◌≤◌, ◌<◌, zero-le}
use mathlib.Core.Bool.{Bool, true, false, not, ◌&&◌}
use mathlib.Core.List.{List, [], ◌∷◌, ◌++◌}
use mathlib.Core.Logic.{◌≢◌}
use mathlib.Core.Path.{◌≡◌, refl, sym, ap, subst, ◌∙◌}
use native.Mathlib.Numerals.{add-one}
use native.Mathlib.Omega.{arith}
use borrow.Author.Tests.{eq-eqb, ne_eqb, le-leb, lt-leb}
use lib.Dec.{eqb}
use lib.ListN.{length, take, drop, set, get_or, drop_of_length-le, get_or-eq_default}
use lib.Seq.{drop-cons, length-take-le, take-suc-set, get_or-take, get_or-set_same, get_or-set_other}
use Rattle.model.proofs.Range.{within}
use Rattle.model.proofs.TestLaws.{pick_case, pick_true, pick-false, same_or, below_or, or_true_right, clash}
use Rattle.model.specs.Program.{word}
use Rattle.model.specs.Test.{pick, ◌and◌, ◌or◌, both, either}
use Rattle.script.specs.Reads.{number_of, text_of, is_wide, numbers_of, line_in, Small, Sizes, Sized, Holds}
use Rattle.script.specs.Script.{same, names, number_from, name_number, many, least, least_numbers, most_numbers, has_index, has_totals, largest, Line, line_of, stopped}
use Rattle.script.specs.declared.Reading.{Reading}
use Rattle.script.specs.declared.names.Name.{Name}
use Rattle.std.specs.Cmp.Lexicographic.{pointwise}
use Rattle.std.proofs.Common.{rules}

-- ---- names

-- bytes are the same where `==` says so
pub same_is : (xs ys : List ℕ) → same xs ys ≡ pointwise eqb xs ys
unfolding same both
same_is [] [] = refl
same_is [] (y ∷ ys) = refl
same_is (x ∷ xs) [] = refl
same_is (x ∷ xs) (y ∷ ys) = go (eqb x y) (same_is xs ys)
  where
    go : {a b : Bool} (t : Bool) → a ≡ b → (t and a) ≡ (t && b)
    go true e = e
    go false e = refl

-- names that stand in the order of the page's table, from number k on
InOrder : List Name → List (List ℕ) → ℕ → Type 0
InOrder [] texts k = Unit
InOrder (name ∷ others) [] k = ⊥
InOrder (name ∷ others) (text ∷ texts) k = (number_of name ≡ k) × (text_of name ≡ text) × InOrder others texts (suc k)

abbrev table : List Name
table =
    Name.Program ∷
    Name.Sizes ∷
    Name.Totals ∷
    Name.Check ∷
    Name.Format ∷
    Name.Boot ∷
    Name.Step ∷
    Name.Cut ∷
    Name.Post ∷
    Name.Burst ∷
    Name.Run ∷
    Name.LinesCheck ∷
    Name.Raise ∷
    Name.SetProgram ∷
    Name.SetStore ∷
    Name.ProgramLength ∷
    Name.StoreLength ∷
    Name.SetDevice ∷
    Name.SetTotals ∷
    Name.Keep ∷
    Name.Restore ∷
    []

in_table : InOrder table names 1
unfolding InOrder number_of text_of names
in_table = search rules

number_in : (xs : List Name) (ts : List (List ℕ)) (k i : ℕ) (d : Name) → InOrder xs ts k → i < length xs → number_of (get_or xs i d) ≡ k + i
unfolding InOrder
number_in [] ts k i d h less = absurd (omega arith)
number_in (x ∷ xs) [] k i d h less = absurd h
number_in (x ∷ xs) (t ∷ ts) k zero d h less = h.0 ∙ omega arith
number_in (x ∷ xs) (t ∷ ts) k (suc i) d h less = number_in xs ts (suc k) i d h.2 (omega arith) ∙ omega arith

text_in : (xs : List Name) (ts : List (List ℕ)) (k i : ℕ) (d : Name) → InOrder xs ts k → i < length xs → text_of (get_or xs i d) ≡ get_or ts i []
unfolding InOrder
text_in [] ts k i d h less = absurd (omega arith)
text_in (x ∷ xs) [] k i d h less = absurd h
text_in (x ∷ xs) (t ∷ ts) k zero d h less = h.1
text_in (x ∷ xs) (t ∷ ts) k (suc i) d h less = text_in xs ts (suc k) i d h.2 (omega arith)

number_step : (ts : List (List ℕ)) (i n : ℕ) (bytes : List ℕ) → i < length ts → number_from (drop i ts) n bytes ≡ pick (same bytes (get_or ts i [])) n (number_from (drop (i + 1) ts) (n + 1) bytes)
unfolding number_from
number_step ts i n bytes h = rw (drop-cons ts i [], add-one n, add-one i)

-- a loop through the table that has come to name i, whose bytes are these or aren't
module _ (bytes : List ℕ) (i : ℕ) (d : Name) {text : List ℕ} {r : Bool} (less : i < 21) (its : text ≡ text_of (get_or table i d)) (made : r ≡ same bytes text) (so_far : number_from (drop i names) (i + 1) bytes ≡ name_number bytes) where
  here : number_from (drop i names) (i + 1) bytes ≡ pick r (i + 1) (number_from (drop (i + 1) names) (i + 1 + 1) bytes)
  unfolding names
  here = number_step names i (i + 1) bytes less ∙ ap (λ (b : Bool). pick b (i + 1) (number_from (drop (i + 1) names) (i + 1 + 1) bytes)) (ap (same bytes) (sym (its ∙ text_in table names 1 i d in_table less)) ∙ sym made)

  pub name_found : r ≡ true → number_of (get_or table i d) ≡ name_number bytes
  name_found e = number_in table names 1 i d in_table less ∙ omega arith ∙ sym (pick_true _ _ e) ∙ sym here ∙ so_far

  pub name_passed : r ≡ false → number_from (drop (i + 1) names) (i + 1 + 1) bytes ≡ name_number bytes
  name_passed e = sym (pick-false _ _ e) ∙ sym here ∙ so_far

pub names_end : (bytes : List ℕ) (i : ℕ) → 21 ≤ i → 0 ≡ number_from (drop i names) (i + 1) bytes
unfolding number_from names
names_end bytes i h = rw (drop_of_length-le names h)

-- ---- names' numbers

pub number-some : (name : Name) → 0 < number_of name
unfolding number_of
number-some Name.Program = omega arith
number-some Name.Sizes = omega arith
number-some Name.Totals = omega arith
number-some Name.Check = omega arith
number-some Name.Format = omega arith
number-some Name.Boot = omega arith
number-some Name.Step = omega arith
number-some Name.Cut = omega arith
number-some Name.Post = omega arith
number-some Name.Burst = omega arith
number-some Name.Run = omega arith
number-some Name.LinesCheck = omega arith
number-some Name.Raise = omega arith
number-some Name.SetProgram = omega arith
number-some Name.SetStore = omega arith
number-some Name.ProgramLength = omega arith
number-some Name.StoreLength = omega arith
number-some Name.SetDevice = omega arith
number-some Name.SetTotals = omega arith
number-some Name.Keep = omega arith
number-some Name.Restore = omega arith

number_within : (names : List (List ℕ)) (n : ℕ) (bytes : List ℕ) → number_from names n bytes ≤ n + length names - 1
unfolding number_from
number_within [] n bytes = omega arith
number_within (one ∷ others) n bytes =
    pick_case (λ (r : ℕ). r ≤ n + suc (length others) - 1) (λ _. omega arith) (λ _. omega (arith, number_within others (n + 1) bytes))

pub number-most : (bytes : List ℕ) → name_number bytes ≤ 21
unfolding name_number names
number-most bytes = number_within names 1 bytes

-- ---- how many numbers, and how large

least-most : (kind : ℕ) → least_numbers kind ≤ 26
unfolding least_numbers least
least-most kind = below_or kind 20
    (λ h. within (λ k. least_numbers k ≤ 26) 0 20 kind (omega arith) (omega arith) (omega arith))
    (λ h. rw (get_or-eq_default least 0 h) (omega arith))

pub most-many : (kind : ℕ) → most_numbers kind ≤ many
unfolding most_numbers
most-many kind = pick_case (λ (n : ℕ). n ≤ many) (λ _. omega arith) (λ _. omega (arith, least-most kind))

pub largest-most : (kind i : ℕ) → largest kind i ≤ 4294967295
unfolding largest
largest-most kind i = pick_case (λ (n : ℕ). n ≤ 4294967295) (λ _. omega arith) (λ _. pick_case (λ (n : ℕ). n ≤ 4294967295) (λ _. omega arith) (λ _. omega arith))

few : (kind : ℕ) → pick (is_wide kind) (most_numbers kind) 0 ≤ 3
unfolding is_wide has_index has_totals most_numbers least_numbers least pick both either
few kind = below_or kind 20
    (λ h. within (λ k. pick (is_wide k) (most_numbers k) 0 ≤ 3) 0 20 kind (omega arith) (omega arith) (omega arith))
    (λ h. simp (le-leb 14 kind (omega arith), lt-leb kind 17 (omega arith), ne_eqb kind 3 (λ t. absurd (omega arith)), ne_eqb kind 11 (λ t. absurd (omega arith)), ne_eqb kind 19 (λ t. absurd (omega arith))) (omega arith))

pub wide_few : (kind : ℕ) → is_wide kind ≡ true → most_numbers kind ≤ 3
wide_few kind e = rw (pick_true _ _ e) at (few kind)

or_false : (a b : Bool) → (a or b) ≡ false → (a ≡ false) × (b ≡ false)
unfolding either
or_false true b e = clash refl e
or_false false b e = (refl, e)

pub narrow : (kind i : ℕ) → is_wide kind ≡ false → largest kind i ≤ 65535
unfolding is_wide largest pick both
narrow kind i e = let no = or_false (has_index kind) (has_totals kind) e in rw (no.1, no.0) (omega arith)

-- ---- what a reading holds

module _ (now : Reading) (words : List ℕ) (sizes : Sized now (length words)) where
  pub name_held : length (take now.held now.name) ≡ now.held
  name_held = length-take-le now.held now.name (omega (arith, sizes.held_most, sizes.name_length))

  pub numbers-counted : length (numbers_of now words) ≡ now.count
  numbers-counted =
      pick_case {b = is_wide now.kind} (λ (l : List ℕ). length (take now.count l) ≡ now.count)
      (λ e. length-take-le now.count now.wide (omega (arith, sizes.count_most, sizes.wide_long, wide_few now.kind e)))
      (λ _. length-take-le now.count words (omega (arith, sizes.count_most, sizes.room, most-many now.kind)))

  -- number i of the line: none, one held in the reading, or a lent word
  module _ (i : ℕ) where
    pub number-none : now.count ≤ i → word (numbers_of now words) i ≡ 0
    number-none h = get_or-eq_default (numbers_of now words) 0 (omega (arith, numbers-counted))

    pub number_wide : i < now.count → is_wide now.kind ≡ true → word (numbers_of now words) i ≡ word now.wide i
    number_wide h e = rw (pick_true _ _ e) (get_or-take now.count now.wide i 0 h)

    pub number_word : i < now.count → is_wide now.kind ≡ false → word (numbers_of now words) i ≡ word words i
    number_word h e = rw (pick-false _ _ e) (get_or-take now.count words i 0 h)

  pub numbers-small : is_wide now.kind ≡ true → (i : ℕ) → word (numbers_of now words) i ≤ largest now.kind i
  numbers-small e i = below_or i now.count
      (λ h. rw (number_wide i h e) (sizes.wide_in i h e))
      (λ h. rw (number-none i h) zero-le)

-- what a reading's sizes give
module _ {n held kind count value : ℕ} {name wide : List ℕ} {begun : Bool} (sizes : Sizes n name held kind wide count begun value) where
  -- as many lent words as a line's numbers may be
  pub lent : Sizes many name held kind wide count begun value
  lent = subst (λ (m : ℕ). Sizes m name held kind wide count begun value) sizes.room sizes

  pub value-small : value ≤ 4294967295
  value-small = omega (arith, sizes.value_most, largest-most kind count)

  -- no number has begun where there are as many as there may be
  pub full : most_numbers kind ≤ count → not begun ≡ true
  full h = go begun refl
    where
      go : (b : Bool) → begun ≡ b → not b ≡ true
      go true e = absurd (omega (arith, sizes.begun_more e))
      go false e = refl

  -- a number that has begun has room, and behind it the next can begin
  pub room_word : begun ≡ true → count < many
  room_word e = omega (arith, sizes.begun_more e, most-many kind)

  pub room_wide : begun ≡ true → is_wide kind ≡ true → count < 3
  room_wide e f = omega (arith, sizes.begun_more e, wide_few kind f)

  -- the number that has ended is small, as those before it
  pub wide_small : begun ≡ true → Small kind (set wide count value) (count + 1)
  wide_small e = λ i h f. same_or i count
      (λ here. rw (here, get_or-set_same wide count value 0 (omega (arith, sizes.wide_long, room_wide e f))) sizes.value_most)
      (λ other. rw (get_or-set_other wide count i value 0 other) (sizes.wide_in i (omega arith) f))

  pub one_more : {m : ℕ} {others : List ℕ} → begun ≡ true → m ≡ many → length others ≡ 3 → Small kind others (count + 1) → Sizes m name held kind others (count + 1) false 0
  one_more e room long small =
      record {
        room = room;
        name_length = sizes.name_length;
        held_most = sizes.held_most;
        kind_most = sizes.kind_most;
        wide_long = long;
        wide_in = small;
        count_most = omega (arith, sizes.begun_more e);
        begun_more = λ e. clash e refl;
        value_most = zero-le;
      }

-- a number more, beside the others of its kind
module _ (kind count value : ℕ) (wide words : List ℕ) where
  pub wide_more : is_wide kind ≡ true → count < length wide → take (count + 1) (pick (is_wide kind) (set wide count value) words) ≡ take count (pick (is_wide kind) wide words) ++ (value ∷ [])
  unfolding pick
  wide_more e h = rw (e, add-one) (take-suc-set wide count value h)

  pub word_more : is_wide kind ≡ false → count < length words → take (count + 1) (pick (is_wide kind) wide (set words count value)) ≡ take count (pick (is_wide kind) wide words) ++ (value ∷ [])
  unfolding pick
  word_more e h = rw (e, add-one) (take-suc-set words count value h)

-- a line whose latest number has ended
abbrev pub with_numbers : Reading → List ℕ → Line
with_numbers now numbers = line_of now.wrong now.comment (take now.held now.name) now.kind numbers false 0

-- a reading that stays
pub stays : {now : Reading} {words : List ℕ} → Sized now (length words) → Holds (line_in now words) now words
stays sizes = record { read = refl; sized = sizes }

-- the same line, said otherwise
pub holds_as : {l m : Line} {now : Reading} {words : List ℕ} → Holds l now words → l ≡ m → Holds m now words
holds_as h e = rw e at h

-- ---- where nothing more is read, and where it goes on

module _ (l : Line) where
  pub in_comment : l.comment ≡ true → stopped l ≡ true
  unfolding stopped either
  in_comment e = rw e

  pub behind-wrong : l.wrong ≢ 0 → stopped l ≡ true
  unfolding stopped
  behind-wrong e = or_true_right _ _ (rw (ne_eqb _ _ e))

  pub goes_on : l.comment ≡ false → l.wrong ≡ 0 → stopped l ≡ false
  unfolding stopped either
  goes_on e f = rw (e, eq-eqb _ _ f)
