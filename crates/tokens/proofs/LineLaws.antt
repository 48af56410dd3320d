-- Laws of a text's lines: how many there are, and what a byte brings. Assumes nothing.
use Prim.Native.Nat.{ℕ, zero, suc, ◌+◌, ◌*◌, ◌^◌, ◌≤◌, ◌<◌}
use mathlib.Core.Bool.{Bool, true, false}
use mathlib.Core.List.{List, [], ◌∷◌, ◌++◌}
use mathlib.Core.Logic.{◌≢◌}
use mathlib.Core.Path.{◌≡◌, refl, sym, ap, ◌∙◌}
use native.Mathlib.Nat.{pow-suc, pow-le-pow_right}
use native.Mathlib.Omega.{arith}
use borrow.Author.Tests.{eq-eqb, ne_eqb}
use lib.Dec.{eqb}
use Rattle.std.specs.Prelude.{Some}
use native.Mathlib.Numerals.{add-one}
use lib.ListN.{length, get_or, set, take, drop, get_or-eq_default}
use lib.Seq.{drop-cons, drop-length, take-suc-set}
use Rattle.text.proofs.TextLaws.{puts_nothing, puts_as}
use Rattle.text.specs.Puts.{Puts}
use Rattle.model.proofs.TestLaws.{pick_true, pick-false}
use Rattle.model.specs.Test.{pick}
use Rattle.tokens.specs.Tokens.{line_feed, start, next, finished, lines_from, line_count, named, statement_names, all_named, number_of, statement, character, spelled, all_numbers}
use Rattle.tokens.specs.declared.SourceLine.{SourceLine}
use Rattle.tokens.specs.declared.Reading.{Reading}

pub table_length : length (all_named statement_names) ≡ 22
unfolding all_named statement_names
table_length = refl

pub names-length : length statement_names ≡ 22
unfolding statement_names
names-length = refl

-- the word of the name at place n
pub named-at : (names : List (List ℕ)) (n : ℕ) → n < length names → named (get_or names n []) ≡ get_or (all_named names) n 0
unfolding all_named
named-at [] n h = absurd (omega arith)
named-at (bytes ∷ names) zero h = refl
named-at (bytes ∷ names) (suc n) h = named-at names n (omega arith)

pub count_of : (byte : ℕ) (bytes : List ℕ) → line_count (byte ∷ bytes) ≡ pick (eqb byte line_feed) 1 0 + line_count bytes
unfolding line_count pick
count_of byte bytes = go (eqb byte line_feed) where
  go : (b : Bool) → pick b (suc (line_count bytes)) (line_count bytes) ≡ pick b 1 0 + line_count bytes
  go true = omega arith
  go false = omega arith

-- of the text's bytes from i on
pub count_step : (text : List ℕ) (i : ℕ) → i < length text
    → line_count (drop i text) ≡ pick (eqb (get_or text i 0) line_feed) 1 0 + line_count (drop (i + 1) text)
count_step text i h = rw (add-one, drop-cons text i 0) (count_of (get_or text i 0) (drop (suc i) text))

pub count-end : (text : List ℕ) (i : ℕ) → i ≡ length text → line_count (drop i text) ≡ 1
unfolding line_count
count-end text i e = rw (e, drop-length text)

pub count-least : (bytes : List ℕ) → 1 ≤ line_count bytes
unfolding line_count
count-least [] = omega arith
count-least (byte ∷ bytes) = omega (arith, count_of byte bytes, count-least bytes)

module _ (now : Reading) (byte : ℕ) (bytes : List ℕ) where
  pub feed_ends : byte ≡ line_feed → lines_from now (byte ∷ bytes) ≡ finished now ++ lines_from start bytes
  unfolding lines_from
  feed_ends e = pick_true _ _ (eq-eqb _ _ e)

  pub other_goes_on : byte ≢ line_feed → lines_from now (byte ∷ bytes) ≡ lines_from (next now byte) bytes
  unfolding lines_from
  other_goes_on e = pick-false _ _ (ne_eqb _ _ e)

-- ---- The statements' names, by their places

-- the name at place n was put, or nothing behind the last
pub puts_name : {t u : List ℕ} {at m : ℕ} {xs : List ℕ} (n k : ℕ) → Puts t at u m xs → n ≡ k → xs ≡ get_or statement_names k [] → Puts t at u m (get_or statement_names n [])
puts_name n k puts e name = rw e (puts_as puts name)

pub puts_no_name : (t : List ℕ) (at n : ℕ) → 22 ≤ n → Puts t at t at (get_or statement_names n [])
puts_no_name t at n h = puts_as (puts_nothing t at) (sym (get_or-eq_default statement_names [] (rw names-length h)))

-- ---- Lines in a room, as six numbers each

pub numbers_append : (ls ks : List SourceLine) → all_numbers (ls ++ ks) ≡ all_numbers ls ++ all_numbers ks
unfolding all_numbers
numbers_append [] ks = refl
numbers_append (l ∷ ls) ks =
    ap (λ (ns : List ℕ). l.wrong ∷ l.label ∷ l.statement ∷ l.first ∷ l.second ∷ l.third ∷ ns) (numbers_append ls ks)

-- a line that was put behind those that stand there
pub numbers_set : (room : List SourceLine) (at : ℕ) (l : SourceLine) → at < length room
    → all_numbers (take (at + 1) (set room at l)) ≡ all_numbers (take at room) ++ all_numbers (l ∷ [])
numbers_set room at l h = rw (add-one, take-suc-set room at l h) (numbers_append (take at room) (l ∷ []))

pub same_some : {n m : ℕ} → Some n ≡ Some m → n ≡ m
same_some e = cc

-- the word of the name that was put
pub word_put : (n end : ℕ) {t u : List ℕ} → Puts t 0 u end (get_or statement_names n []) → n < 22 → named (take end u) ≡ get_or (all_named statement_names) n 0
word_put n end puts h = ap named puts.text ∙ named-at statement_names n (rw names-length h)

pub no_word : (n : ℕ) → 22 ≤ n → 0 ≡ get_or (all_named statement_names) n 0
no_word n h = sym (get_or-eq_default (all_named statement_names) 0 (rw table_length h))

pub ruleset statement_words = (word_put, no_word)

-- the statement of a word, as far as the names are gone through
pub statement_none : (first : ℕ) → first ≡ 0 → 0 ≡ statement first
unfolding statement
statement_none first e = sym (pick_true _ _ (eq-eqb _ _ e))

pub statement_is : (first n : ℕ) → first ≢ 0 → n ≡ number_of (all_named statement_names) first 1 → n ≡ statement first
unfolding statement
statement_is first n some e = e ∙ sym (pick-false _ _ (ne_eqb _ _ some))

module _ (first n : ℕ) (h : n < 22) where
  names_here : drop n (all_named statement_names) ≡ get_or (all_named statement_names) n 0 ∷ drop (suc n) (all_named statement_names)
  names_here = drop-cons (all_named statement_names) n 0 (rw table_length h)

  pub number_here : first ≡ get_or (all_named statement_names) n 0 → n + 1 ≡ number_of (drop n (all_named statement_names)) first (n + 1)
  unfolding number_of
  number_here e = rw names_here (sym (pick_true _ _ (eq-eqb _ _ e)))

  pub number_next : first ≢ get_or (all_named statement_names) n 0
      → number_of (drop n (all_named statement_names)) first (n + 1) ≡ number_of (drop (n + 1) (all_named statement_names)) first (n + 1 + 1)
  unfolding number_of
  number_next e = rw (names_here, add-one n) (pick-false _ _ (ne_eqb _ _ e))

pub number_end : (first n : ℕ) → n ≡ 22 → number_of (drop n (all_named statement_names)) first (n + 1) ≡ 23
unfolding number_of
number_end first n e = rw (e, ← table_length, drop-length (all_named statement_names)) (omega (arith, table_length))

pub ruleset statement_of_word = (statement_none, statement_is, number_here, number_next, number_end)

pub ruleset counting = (count_step, count-end)

-- a name's value, as far as its characters are gone through: small enough for one more, and what it spells with those to come
pub name_room : (value i : ℕ) → value < 38 ^ i → i < 12 → 38 * value + 38 ≤ 38 ^ 12
name_room value i h l =
    let most : 38 ^ i ≤ 38 ^ 11 = pow-le-pow_right {n = 38} (omega arith) {i = i} {j = 11} (omega arith) in
    omega (arith, most)

pub name_most : (value i : ℕ) → value < 38 ^ i → i ≤ 12 → value < 38 ^ 12
name_most value i h l =
    let most : 38 ^ i ≤ 38 ^ 12 = pow-le-pow_right {n = 38} (omega arith) {i = i} {j = 12} l in
    omega (arith, most)

pub name_more : (value c i : ℕ) → value < 38 ^ i → c < 38 → 38 * value + c < 38 ^ (i + 1)
name_more value c i h l = rw add-one (omega (arith, pow-suc 38 i))

pub spelled_step : (value : ℕ) (bytes : List ℕ) (i : ℕ) → i < length bytes
    → spelled value (drop i bytes) ≡ spelled (38 * value + character (get_or bytes i 0)) (drop (i + 1) bytes)
unfolding spelled
spelled_step value bytes i h = rw (add-one, drop-cons bytes i 0) refl

pub spelled_end : (value : ℕ) (bytes : List ℕ) (i : ℕ) → i ≡ length bytes → spelled value (drop i bytes) ≡ value
unfolding spelled
spelled_end value bytes i e = rw (e, drop-length bytes) refl

pub ruleset spelling = (name_room, name_most, name_more, spelled_step, spelled_end)
