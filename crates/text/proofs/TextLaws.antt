-- Laws of text: what is put behind what was put; numbers in decimal, as the kit's digits have them; words in hex. Assumes nothing.
use Prim.Native.Nat.{ℕ, zero, suc, ◌+◌, ◌-◌, ◌/◌, ◌%◌, ◌^◌, ◌≤◌, ◌<◌}
use mathlib.Core.Bool.{Bool, true, false}
use mathlib.Core.List.{List, [], ◌∷◌, ◌++◌, append_assoc, append-nil}
use mathlib.Core.Path.{◌≡◌, refl, sym, ap, ◌∙◌}
use native.Mathlib.Nat.{pow-suc, one-le-pow, pow-le-pow_right, mod-eq_of_lt, mod-lt, add-zero}
use native.Mathlib.Numerals.{add-one, unary_clauses}
use native.Mathlib.Omega.{arith}
use borrow.Author.Tests.{lt-ltb, le-ltb, leb-true, leb-false, ltb-false}
use lib.Dec.{leb}
use lib.ListN.{length, get_or, take, length-append}
use lib.Seq.{take-suc}
use Rattle.io.specs.Digits.{last_digits, IsDigitCount}
use Rattle.model.proofs.TestLaws.{pick_case, pick_true, pick-false}
use Rattle.text.specs.Puts.{Puts}
use Rattle.text.specs.Text.{space, decimal_of, decimal, hex_word, hex_words}

-- ---- putting

pub puts_nothing : (t : List ℕ) (n : ℕ) → Puts t n t n []
puts_nothing t n = record { ends = sym (add-zero n); text = sym (append-nil (take n t)) }

pub puts_then : {t u v : List ℕ} {n m k : ℕ} {xs ys : List ℕ} → Puts t n u m xs → Puts u m v k ys → Puts t n v k (xs ++ ys)
puts_then {t} {u} {v} {n} {m} {k} {xs} {ys} a b =
    record {
      ends = simp length-append (omega (arith, a.ends, b.ends));
      text = b.text ∙ ap (λ (l : List ℕ). l ++ ys) a.text ∙ append_assoc (take n t) xs ys;
    }

-- nothing put, and something behind what was put
pub ruleset puts = (puts_nothing, puts_then)

-- the same text, said otherwise
pub puts_as : {t u : List ℕ} {n m : ℕ} {xs ys : List ℕ} → Puts t n u m xs → xs ≡ ys → Puts t n u m ys
puts_as a e = rw e at a

-- ---- decimal

-- the digits of a number that has more than j of them, and no more than one more
less_than_power : (j : ℕ) → j < 10 ^ j
less_than_power zero = omega arith
less_than_power (suc j) = let h = less_than_power j in omega (arith, pow-suc 10 j, h)

digit-below : (n : ℕ) → n % 10 < 10
digit-below n = mod-lt n (omega arith)

digits_are : (k j n : ℕ) → j ≤ k → n < 10 ^ suc j → (0 < j → 10 ^ j ≤ n) → decimal_of k n ≡ last_digits 10 (suc j) n
unfolding decimal_of
digits_are zero zero n l most least = let small : n < 10 = omega (arith, pow-suc 10 0) in rw (lt-ltb (n % 10) 10 (digit-below n))
digits_are zero (suc j) n l most least = absurd (omega arith)
digits_are (suc k) zero n l most least =
    let small : n < 10 = omega (arith, most) in
    pick_true _ _ (lt-ltb n 10 small) ∙ rw (mod-eq_of_lt small, lt-ltb n 10 small)
digits_are (suc k) (suc j) n l most least =
    let power = pow-suc 10 j in
    let power' = pow-suc 10 (suc j) in
    let some = one-le-pow j 10 (omega arith) in
    let enough : 10 ^ suc j ≤ n = least (omega arith) in
    let ten : 10 ≤ n = omega arith in
    let less : n / 10 < 10 ^ suc j = omega arith in
    pick-false _ _ (le-ltb n 10 ten)
    ∙ rw (digits_are k j (n / 10) (omega arith) less (λ _. omega arith), lt-ltb (n % 10) 10 (digit-below n))

pub decimal_is : (n r : ℕ) → IsDigitCount 10 1 n r → last_digits 10 r n ≡ decimal n
unfolding decimal
decimal_is n zero (least, most, fewest) = absurd (omega arith)
decimal_is n (suc j) (least, most, fewest) =
    let enough : 0 < j → 10 ^ j ≤ n = λ h. simp unary_clauses at (fewest (omega arith)) in
    sym (digits_are n j n (fits j enough) most enough)
  where
    fits : (j : ℕ) → (0 < j → 10 ^ j ≤ n) → j ≤ n
    fits zero enough = omega arith
    fits (suc j) enough = let h = less_than_power (suc j) in let e = enough (omega arith) in omega arith

-- a number of 64 bits has twenty digits at most
pub few_digits : (n r : ℕ) → n < 2 ^ 64 → IsDigitCount 10 1 n r → r ≤ 20
few_digits n r small (least, most, fewest) = by_test (leb r 20) refl
  where
    by_test : (b : Bool) → leb r 20 ≡ b → r ≤ 20
    by_test true e = leb-true r 20 e
    by_test false e =
        let more : 20 < r = leb-false r 20 e in
        let enough = fewest (omega arith) in
        let grows : 10 ^ 20 ≤ 10 ^ (r - 1) = let some : 20 ≤ r - 1 = omega arith in pow-le-pow_right (omega arith) some in
        absurd (omega arith)

-- a number below a power of ten has so many digits at most
length_of : (m k n : ℕ) → n < 10 ^ suc k → length (decimal_of m n) ≤ suc k
unfolding decimal_of
length_of zero k n h = omega arith
length_of (suc m) zero n h = pick_case (λ (l : List ℕ). length l ≤ 1) (λ _. omega arith) (λ e. absurd (omega (arith, pow-suc 10 0, ltb-false n 10 e)))
length_of (suc m) (suc k) n h =
    let power = pow-suc 10 (suc k) in
    let less : n / 10 < 10 ^ suc k = omega arith in
    pick_case (λ (l : List ℕ). length l ≤ suc (suc k)) (λ _. omega arith) (λ _. simp length-append (omega (arith, length_of m k (n / 10) less)))

pub decimal-length : (k n : ℕ) → n < 10 ^ suc k → length (decimal n) ≤ suc k
unfolding decimal
decimal-length k n h = length_of n k n h

-- ---- hex

pub hex_append : (xs ys : List ℕ) → hex_words (xs ++ ys) ≡ hex_words xs ++ hex_words ys
unfolding hex_words
hex_append [] ys = refl
hex_append (x ∷ xs) ys = ap (λ (l : List ℕ). space ∷ hex_word x ++ l) (hex_append xs ys) ∙ sym (append_assoc (space ∷ hex_word x) (hex_words xs) (hex_words ys))

pub hex_one : (w : ℕ) → hex_words (w ∷ []) ≡ space ∷ hex_word w
unfolding hex_words
hex_one w = append-nil (space ∷ hex_word w)

-- a loop that puts the words one by one: none yet, and one more
pub hex_words_none : (t : List ℕ) (n : ℕ) → Puts t n t n (hex_words [])
unfolding hex_words
hex_words_none t n = puts_nothing t n

module _ {t u : List ℕ} {n m : ℕ} (words : List ℕ) where
  pub hex_words_more : {v : List ℕ} {k : ℕ} (i : ℕ) → i < length words → Puts t n u m (hex_words (take i words)) → Puts u m v k (space ∷ hex_word (get_or words i 0)) → Puts t n v k (hex_words (take (i + 1) words))
  hex_words_more i h a b =
      rw add-one (puts_as (puts_then a b) (sym (ap hex_words (take-suc words i 0 h) ∙ hex_append (take i words) _ ∙ ap (λ (l : List ℕ). hex_words (take i words) ++ l) (hex_one _))))

pub ruleset by_word = (hex_words_none, hex_words_more)

-- the digits of a number that the kit makes, as they are defined
pub ruleset in_decimal = (few_digits, decimal_is, puts_as)
