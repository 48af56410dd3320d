-- How a word's bytes are read: byte by byte, a name by its characters and a number by its digits, each as a word that can stand
-- at any place of a line. Assumes nothing.
use Prim.Native.Char.{code}
use Prim.Native.Nat.{ℕ, zero, suc, ◌+◌, ◌-◌, ◌*◌, ◌/◌, ◌%◌, ◌^◌, ◌≤◌, ◌<◌}
use mathlib.Core.Bool.{Bool, true, false, not}
use mathlib.Core.List.{List, [], ◌∷◌, ◌++◌}
use mathlib.Core.Path.{◌≡◌, refl, ◌∙◌}
use native.Mathlib.Nat.{mod-lt, mod-eq_of_lt, pow-le-pow_right, zero-add}
use native.Mathlib.Omega.{arith}
use borrow.Author.Tests.{ltb-true, ltb-false, leb-true, lt-ltb, le-leb, lt-leb, eqb-true, ne_eqb}
use lib.Dec.{eqb, leb, ltb}
use lib.ListN.{length, get_or, length-append}
use Rattle.listing.specs.Listing.{task_name, event_name, transaction_name, label_name}
use Rattle.model.proofs.ProgramLaws.{◌&◌}
use Rattle.model.proofs.Range.{within}
use Rattle.model.proofs.TestLaws.{pick_case, pick_true, pick-false, clash, same_or, and_true, and_left, and_right}
use Rattle.model.specs.Test.{pick, ◌and◌, both, either}
use Rattle.text.proofs.TextLaws.{decimal-length}
use Rattle.text.specs.Ascii.{ascii}
use Rattle.text.specs.Text.{decimal_of, decimal}
use Rattle.tokens.specs.Tokens.{character, is_space, line_feed, number, named, spelled, with_word, sized, digit, begun, longer, goes_on, added, ended_by, if_right, read_byte, next, statement, statement_names, all_named, number_of}
use Rattle.tokens.specs.declared.Kind.{Kind}
use Rattle.tokens.specs.declared.Reading.{Reading}

-- what holds of both sides of two choices by one test
pub pick-both : {A B : Type 0} {t : Bool} {x y : A} {u v : B} (P : A → B → Type 0) → (t ≡ true → P x u) → (t ≡ false → P y v) → P (pick t x y) (pick t u v)
unfolding pick
pick-both {t = true} P f g = f refl
pick-both {t = false} P f g = g refl

-- ---- Lists of bytes: all pass a test

abbrev pub every : (ℕ → Bool) → List ℕ → Bool
every test [] = true
every test (byte ∷ bytes) = test byte and every test bytes

pub every_append : (test : ℕ → Bool) (xs ys : List ℕ) → every test xs ≡ true → every test ys ≡ true → every test (xs ++ ys) ≡ true
every_append test [] ys e f = f
every_append test (x ∷ xs) ys e f = and_true (and_left _ _ e) (every_append test xs ys (and_right (test x) _ e) f)

-- every number below n
abbrev every_below : (ℕ → Bool) → ℕ → Bool
every_below test zero = true
every_below test (suc n) = test n and every_below test n

every_below_lem : (test : ℕ → Bool) (n k : ℕ) → every_below test n ≡ true → k < n → test k ≡ true
every_below_lem test zero k e h = absurd (omega arith)
every_below_lem test (suc n) k e h =
    same_or k n (λ same. rw same (and_left (test n) _ e)) (λ other. every_below_lem test n k (and_right (test n) _ e) (omega (arith, other)))

-- no line feed
abbrev pub is_plain : ℕ → Bool
is_plain byte = not (eqb byte line_feed)

-- a byte that goes on with a name
is_of_name : ℕ → Bool
is_of_name byte =
    is_plain byte and ltb (character byte) 38 and not (is_space byte) and not (eqb byte (code ";")) and not (eqb byte (code ":")) and not (eqb (character byte) 0)

of_name : (byte : ℕ) → is_of_name byte ≡ true → (is_plain byte ≡ true) × (character byte < 38)
unfolding is_of_name
of_name byte e = (and_left _ _ e, ltb-true (character byte) 38 (and_left _ _ (and_right (is_plain byte) _ e)))

plain_of_name : (xs : List ℕ) → every is_of_name xs ≡ true → every is_plain xs ≡ true
plain_of_name [] e = refl
plain_of_name (x ∷ xs) e = and_true (of_name x (and_left _ _ e)).0 (plain_of_name xs (and_right (is_of_name x) _ e))

-- the ten digits
digit_byte_lem : (d : ℕ) → d < 10 → (is_of_name (48 + d) ≡ true) × (character (48 + d) ≡ d + 1)
unfolding is_of_name is_space character pick both either
digit_byte_lem d h =
    let e = every_below_lem (λ (d : ℕ). is_of_name (48 + d) and eqb (character (48 + d)) (d + 1)) 10 d refl h in
    (and_left _ _ e, eqb-true _ _ (and_right (is_of_name (48 + d)) _ e))

-- ---- A line as far as it is read: its label and words, and the word that is being read

abbrev pub during : ℕ → List ℕ → Kind → ℕ → Reading
during label ws kind value =
    record {
      wrong = 0;
      label = label;
      first = get_or ws 0 0;
      second = get_or ws 1 0;
      third = get_or ws 2 0;
      fourth = get_or ws 3 0;
      kind = kind;
      value = value;
      comment = false;
    }

abbrev pub between : ℕ → List ℕ → Reading
between label ws = during label ws Kind.Nothing 0

abbrev pub reads : Reading → List ℕ → Reading
reads now [] = now
reads now (byte ∷ bytes) = reads (next now byte) bytes

pub reads_append : (now : Reading) (xs ys : List ℕ) → reads now (xs ++ ys) ≡ reads (reads now xs) ys
reads_append now [] ys = refl
reads_append now (x ∷ xs) ys = reads_append (next now x) xs ys

-- what stands behind four tests of which none is met
none_met : {A : Type 0} (a b c d : Bool) (x y z u v : A) → (not a and not b and not c and not d) ≡ true → pick a x (pick b y (pick c z (pick d u v))) ≡ v
unfolding pick both
none_met true b c d x y z u v e = clash e refl
none_met false true c d x y z u v e = clash e refl
none_met false false true d x y z u v e = clash e refl
none_met false false false true x y z u v e = clash e refl
none_met false false false false x y z u v e = refl

-- a number's kind as a word
number_kind : ℕ → Kind
number_kind n = pick (eqb n 0) Kind.Zero Kind.Decimal

kind-decimal : (n : ℕ) → 0 < n → number_kind n ≡ Kind.Decimal
unfolding number_kind
kind-decimal n h = pick-false _ _ (ne_eqb n 0 (λ none. absurd (omega arith)))

module _ (label : ℕ) (ws : List ℕ) where
  character-next : (kind : Kind) (value byte : ℕ) → is_of_name byte ≡ true → next (during label ws kind value) byte ≡ goes_on kind (during label ws kind value) (character byte)
  unfolding is_of_name next read_byte if_right
  character-next kind value byte e =
      pick_true _ _ refl ∙ (pick-false _ _ refl ∙ none_met (is_space byte) (eqb byte (code ";")) (eqb byte (code ":")) (eqb (character byte) 0) _ _ _ _ _ (and_right (ltb (character byte) 38) _ (and_right (is_plain byte) _ e)))

  -- a character more of a name that has so many
  name_goes_on : (value n : ℕ) (bytes : List ℕ) → every is_of_name bytes ≡ true → value < 38 ^ n → n + length bytes ≤ 12
      → reads (during label ws Kind.Name value) bytes ≡ during label ws Kind.Name (spelled value bytes)
  unfolding goes_on longer with_word spelled
  name_goes_on value n [] e less most = refl
  name_goes_on value n (byte ∷ bytes) e less most =
      let few : n ≤ 11 = omega arith in
      let fits : value < 38 ^ 11 = omega (arith, pow-le-pow_right {n = 38} (omega arith) few) in
      rw (character-next Kind.Name value byte (and_left _ _ e), pick_true _ _ (lt-ltb value (38 ^ 11) fits))
      (name_goes_on (38 * value + character byte) (suc n) bytes (and_right (is_of_name byte) _ e) (omega (arith, (of_name byte (and_left _ _ e)).1)) (omega arith))

  name-begins : (byte : ℕ) → is_of_name byte ≡ true → 10 < character byte → next (between label ws) byte ≡ during label ws Kind.Name (character byte)
  unfolding goes_on begun with_word
  name-begins byte e letter =
      character-next Kind.Nothing 0 byte e
      ∙ (pick-false _ _ (ne_eqb (character byte) 1 (λ same. absurd (omega arith))) ∙ pick-false _ _ (lt-leb (character byte) 10 letter))

  number-begins : (d : ℕ) → d < 10 → next (between label ws) (48 + d) ≡ during label ws (number_kind d) d
  unfolding next read_byte if_right is_space character goes_on begun with_word number_kind pick both either
  number-begins d h =
      within (λ (d : ℕ). next (between label ws) (48 + d) ≡ during label ws (number_kind d) d) 0 10 d
      (refl & refl & refl & refl & refl & refl & refl & refl & refl & refl & tt) (omega arith) h

  -- a digit more of a number
  number_goes_on : (value d : ℕ) → d < 10 → 10 * value + d ≤ 65535 → next (during label ws Kind.Decimal value) (48 + d) ≡ during label ws Kind.Decimal (10 * value + d)
  unfolding goes_on digit sized with_word
  number_goes_on value d h fits =
      let (ofName, is) = digit_byte_lem d h in
      let back : d + 1 - 1 ≡ d = omega arith in
      character-next Kind.Decimal value (48 + d) ofName
      ∙ rw is (pick_true _ _ (le-leb (d + 1) 10 (omega arith)) ∙ rw back (pick_true _ _ (le-leb (10 * value + d) 65535 fits)))

  -- the bytes are read as the number n
  abbrev Number : ℕ → List ℕ → Type 0
  Number n bytes = reads (between label ws) bytes ≡ during label ws (number_kind n) n

  number-longer : (xs : List ℕ) (n : ℕ) → 10 ≤ n → n ≤ 65535 → Number (n / 10) xs → Number n (xs ++ ((48 + n % 10) ∷ []))
  number-longer xs n ten most e =
      let whole : 10 * (n / 10) + n % 10 ≡ n = omega arith in
      reads_append (between label ws) xs ((48 + n % 10) ∷ [])
      ∙ rw (e, kind-decimal (n / 10) (omega arith), kind-decimal n (omega arith))
      (number_goes_on (n / 10) (n % 10) (mod-lt n (omega arith)) (omega arith) ∙ rw whole)

  number_read : (k n : ℕ) → n ≤ k → n ≤ 65535 → Number n (decimal_of k n)
  unfolding decimal_of
  number_read zero n l h = let small : n < 10 = omega arith in rw (mod-eq_of_lt small) (number-begins n small)
  number_read (suc k) n l h =
      pick_case (Number n) (λ small. number-begins n (ltb-true n 10 small))
      (λ large.
      let ten : 10 ≤ n = ltb-false n 10 large in
      number-longer (decimal_of k (n / 10)) n ten h (number_read k (n / 10) (omega arith) (omega arith)))

-- ---- Words: what a line's words are read as, wherever they stand

pub record Word (bytes : List ℕ) (word : ℕ) : Type 0 where
  pub kind : Kind
  pub value : ℕ
  pub read : (label : ℕ) (ws : List ℕ) → reads (between label ws) bytes ≡ during label ws kind value
  pub ended : (label : ℕ) (ws : List ℕ) → ended_by kind (during label ws kind value) ≡ added (during label ws kind value) word
  pub some : 0 < word
  pub plain : every is_plain bytes ≡ true
  pub short : length bytes ≤ 12

digit_of_name : (n : ℕ) → every is_of_name ((48 + n % 10) ∷ []) ≡ true
digit_of_name n = and_true (digit_byte_lem (n % 10) (mod-lt n (omega arith))).0 refl

digits_of_name : (k n : ℕ) → every is_of_name (decimal_of k n) ≡ true
unfolding decimal_of
digits_of_name zero n = digit_of_name n
digits_of_name (suc k) n =
    pick_case (λ (bytes : List ℕ). every is_of_name bytes ≡ true) (λ small. and_true (digit_byte_lem n (ltb-true n 10 small)).0 refl)
    (λ large. every_append is_of_name (decimal_of k (n / 10)) ((48 + n % 10) ∷ []) (digits_of_name k (n / 10)) (digit_of_name n))

pub number_word : (n : ℕ) → n ≤ 65535 → Word (decimal n) (number n)
unfolding decimal number_kind ended_by
number_word n h =
    record {
      kind = number_kind n;
      value = n;
      read = λ label ws. number_read label ws n n (omega arith) h;
      ended = λ label ws. pick_case (λ (kind : Kind). ended_by kind (during label ws kind n) ≡ added (during label ws kind n) (number n)) (λ _. refl) (λ _. refl);
      some = omega arith;
      plain = plain_of_name (decimal_of n n) (digits_of_name n n);
      short = omega (arith, decimal-length 4 n (omega arith));
    }

-- bytes that begin a name: characters of names, the first no digit
abbrev is_name_word : List ℕ → Bool
is_name_word [] = false
is_name_word (byte ∷ bytes) = ltb 10 (character byte) and every is_of_name (byte ∷ bytes)

name-word : (bytes : List ℕ) → is_name_word bytes ≡ true → length bytes ≤ 12 → Word bytes (named bytes)
unfolding spelled ended_by
name-word [] e h = clash e refl
name-word (byte ∷ bytes) e h =
    let letter = ltb-true 10 (character byte) (and_left _ _ e) in
    let ofName = and_right (ltb 10 (character byte)) _ e in
    record {
      kind = Kind.Name;
      value = spelled 0 (byte ∷ bytes);
      read =
          λ label ws.
          rw (name-begins label ws byte (and_left _ _ ofName) letter, zero-add (character byte))
          (name_goes_on label ws (character byte) 1 bytes (and_right (is_of_name byte) _ ofName) (omega (arith, (of_name byte (and_left _ _ ofName)).1)) (omega arith));
      ended = λ label ws. refl;
      some = omega arith;
      plain = plain_of_name (byte ∷ bytes) ofName;
      short = h;
    }

-- a name that ends with a number
numbered-word : (bytes : List ℕ) (n : ℕ) → is_name_word bytes ≡ true → length bytes ≤ 7 → n ≤ 65535 → Word (bytes ++ decimal n) (named (bytes ++ decimal n))
unfolding decimal
numbered-word [] n e l h = clash e refl
numbered-word (byte ∷ bytes) n e l h =
    let first = and_left (ltb 10 (character byte)) _ e in
    name-word ((byte ∷ bytes) ++ decimal n)
    (and_true first (every_append is_of_name (byte ∷ bytes) (decimal n) (and_right (ltb 10 (character byte)) _ e) (digits_of_name n n)))
    (simp length-append (omega (arith, decimal-length 4 n (omega arith))))

pub task-word : (i : ℕ) → i ≤ 65535 → Word (task_name i) (named (task_name i))
unfolding task_name is_of_name is_space character pick both either
task-word i h = numbered-word (ascii "task") i refl (omega arith) h

pub event-word : (i : ℕ) → i ≤ 65535 → Word (event_name i) (named (event_name i))
unfolding event_name is_of_name is_space character pick both either
event-word i h = numbered-word (ascii "event") i refl (omega arith) h

pub transaction-word : (n : ℕ) → n ≤ 65535 → Word (transaction_name n) (named (transaction_name n))
unfolding transaction_name is_of_name is_space character pick both either
transaction-word n h = numbered-word (ascii "trans") n refl (omega arith) h

pub label_word_lem : (j : ℕ) → j ≤ 65535 → Word (label_name j) (named (label_name j))
unfolding label_name is_of_name is_space character pick both either
label_word_lem j h = numbered-word (ascii "at") j refl (omega arith) h

-- the statements' names, by their numbers
pub statement-word : (n : ℕ) → n < 22 → Word (get_or statement_names n []) (named (get_or statement_names n [])) × (statement (named (get_or statement_names n [])) ≡ n + 1)
unfolding is_of_name is_space character pick both either statement_names statement all_named number_of spelled
statement-word n h =
    let bytes = get_or statement_names n [] in
    let Named : ℕ → Bool = λ (n : ℕ). is_name_word (get_or statement_names n []) and leb (length (get_or statement_names n [])) 12 and eqb (statement (named (get_or statement_names n []))) (n + 1) in
    let e = every_below_lem Named 22 n refl h in
    let rest = and_right (is_name_word bytes) _ e in
    (name-word bytes (and_left _ _ e) (leb-true _ _ (and_left _ _ rest)), eqb-true _ _ (and_right (leb (length bytes) 12) _ rest))
