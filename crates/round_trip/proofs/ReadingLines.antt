-- How lines are read: behind a margin its words, one after the other, up to the line feed; and lines behind lines. Assumes nothing.
use Prim.Native.Char.{code}
use Prim.Native.Nat.{ℕ, zero, suc, ◌+◌, ◌*◌, ◌≤◌, ◌<◌}
use mathlib.Core.Bool.{true, false}
use mathlib.Core.List.{List, [], ◌∷◌, ◌++◌, append_assoc}
use mathlib.Core.Path.{◌≡◌, refl, ◌∙◌}
use native.Mathlib.Omega.{arith}
use borrow.Author.Tests.{lt-ltb, ne_eqb, not-true}
use lib.Dec.{eqb}
use lib.ListN.{length, get_or, replicate, length-append, length-replicate}
use Rattle.assembly.specs.Lines.{Line}
use Rattle.listing.specs.Listing.{spaces, margin}
use Rattle.model.proofs.TestLaws.{pick_case, pick-false, and_left, and_right}
use Rattle.model.specs.Test.{pick, both, either}
use Rattle.round_trip.proofs.ReadingWords.{pick-both, every, every_append, is_plain, during, between, reads, reads_append, Word, label_word_lem}
use Rattle.round_trip.specs.Expected.{line, blank, flat, label_of}
use Rattle.text.specs.Ascii.{ascii}
use Rattle.text.specs.Text.{space}
use Rattle.tokens.proofs.LineLaws.{count_of, feed_ends}
use Rattle.tokens.specs.Tokens.{line_feed, with_words, is_space, added, ended_by, ended, labelled, if_right, read_byte, next, start, statement, numbers, last, finished, lines_from, line_count}
use Rattle.tokens.specs.declared.Kind.{Kind}
use Rattle.tokens.specs.declared.Reading.{Reading}

-- ---- Bytes without a line feed

lines_plain : (now : Reading) (xs rest : List ℕ) → every is_plain xs ≡ true → lines_from now (xs ++ rest) ≡ lines_from (reads now xs) rest
unfolding lines_from
lines_plain now [] rest e = refl
lines_plain now (x ∷ xs) rest e =
    pick-false _ _ (not-true _ (and_left _ _ e)) ∙ lines_plain (next now x) xs rest (and_right (is_plain x) _ e)

count_plain : (xs rest : List ℕ) → every is_plain xs ≡ true → line_count (xs ++ rest) ≡ line_count rest
unfolding line_count
count_plain [] rest e = refl
count_plain (x ∷ xs) rest e = pick-false _ _ (not-true _ (and_left _ _ e)) ∙ count_plain xs rest (and_right (is_plain x) _ e)

-- ---- A line as far as it is read

abbrev Some : List ℕ → Type 0
Some [] = Unit {0}
Some (w ∷ ws) = (0 < w) × Some ws

some_append : (ws : List ℕ) (w : ℕ) → Some ws → 0 < w → Some (ws ++ (w ∷ []))
some_append [] w s h = (h, tt)
some_append (v ∷ ws) w s h = (s.0, some_append ws w s.1 h)

-- a line's bytes up to where a word can begin: the line has these words behind its label
pub record Gap (bytes : List ℕ) (label : ℕ) (ws : List ℕ) : Type 0 where
  pub plain : every is_plain bytes ≡ true
  pub read : reads start bytes ≡ between label ws
  pub some : Some ws
  pub short : length bytes ≤ 18 + 13 * length ws

-- up to the end of a word: where that ends, the line has these words
pub record Words (bytes : List ℕ) (label : ℕ) (ws : List ℕ) : Type 0 where
  pub before : List ℕ
  pub kind : Kind
  pub value : ℕ
  pub plain : every is_plain bytes ≡ true
  pub read : reads start bytes ≡ during label before kind value
  pub ended : ended_by kind (during label before kind value) ≡ between label ws
  pub some : Some ws
  pub short : length bytes ≤ 17 + 13 * length ws

not_none : {w : ℕ} → 0 < w → eqb w 0 ≡ false
not_none {w} h = ne_eqb w 0 (λ none. absurd (omega arith))

-- there is room for a fourth word
added_is : (label : ℕ) (ws : List ℕ) (kind : Kind) (value w : ℕ) → length ws ≤ 3 → Some ws → added (during label ws kind value) w ≡ between label (ws ++ (w ∷ []))
unfolding added with_words pick
added_is label [] kind value w h s = refl
added_is label (a ∷ []) kind value w h s = rw (not_none s.0)
added_is label (a ∷ b ∷ []) kind value w h s = rw (not_none s.0, not_none s.1.0)
added_is label (a ∷ b ∷ c ∷ []) kind value w h s = rw (not_none s.0, not_none s.1.0, not_none s.1.1.0)
added_is label (a ∷ b ∷ c ∷ d ∷ ws) kind value w h s = absurd (omega arith)

pub word-behind : {bytes xs : List ℕ} {label w : ℕ} {ws : List ℕ} → Gap bytes label ws → Word xs w → length ws ≤ 3 → Words (bytes ++ xs) label (ws ++ (w ∷ []))
word-behind {bytes} {xs} {label} {w} {ws} gap word h =
    record {
      before = ws;
      kind = word.kind;
      value = word.value;
      plain = every_append is_plain bytes xs gap.plain word.plain;
      read = reads_append start bytes xs ∙ rw gap.read (word.read label ws);
      ended = word.ended label ws ∙ added_is label ws word.kind word.value w h gap.some;
      some = some_append ws w gap.some word.some;
      short = simp length-append (omega (arith, gap.short, word.short));
    }

space-ends : (label : ℕ) (ws : List ℕ) (kind : Kind) (value : ℕ) → next (during label ws kind value) space ≡ ended_by kind (during label ws kind value)
unfolding next read_byte if_right is_space ended pick either
space-ends label ws kind value = refl

space-behind : {bytes : List ℕ} {label : ℕ} {ws : List ℕ} → Words bytes label ws → Gap (bytes ++ (space ∷ [])) label ws
unfolding both
space-behind {bytes} {label} {ws} words =
    record {
      plain = every_append is_plain bytes (space ∷ []) words.plain refl;
      read = reads_append start bytes (space ∷ []) ∙ rw words.read (space-ends label words.before words.kind words.value ∙ words.ended);
      some = words.some;
      short = simp length-append (omega (arith, words.short));
    }

-- a space and a word
pub record Spaced (xs : List ℕ) (w : ℕ) : Type 0 where
  pub bytes : List ℕ
  pub word : Word bytes w
  pub is : xs ≡ space ∷ bytes

pub spaced-behind : {bytes xs : List ℕ} {label w : ℕ} {ws : List ℕ} → Words bytes label ws → Spaced xs w → length ws ≤ 3 → Words (bytes ++ xs) label (ws ++ (w ∷ []))
spaced-behind {bytes} {xs} {label} {w} {ws} words s h =
    let all = word-behind (space-behind words) s.word h in
    rw s.is (rw append_assoc at all)

-- ---- Whole lines

pub record Lines (bytes : List ℕ) (ls : List Line) : Type 0 where
  pub lines : (rest : List ℕ) → lines_from start (bytes ++ rest) ≡ flat ls ++ lines_from start rest
  pub count : (rest : List ℕ) → line_count (bytes ++ rest) ≡ length ls + line_count rest
  pub short : length bytes ≤ 80 * length ls

pub flat_append : (ls ms : List Line) → flat (ls ++ ms) ≡ flat ls ++ flat ms
unfolding flat
flat_append [] ms = refl
flat_append (l ∷ ls) ms = rw (flat_append ls ms)

pub no_lines : Lines [] []
unfolding flat
no_lines = record { lines = λ rest. refl; count = λ rest. omega arith; short = omega arith }

pub lines_then : {xs ys : List ℕ} {ls ms : List Line} → Lines xs ls → Lines ys ms → Lines (xs ++ ys) (ls ++ ms)
lines_then {xs} {ys} {ls} {ms} a b =
    record {
      lines = λ rest. rw (append_assoc xs ys rest, a.lines (ys ++ rest), b.lines rest, flat_append ls ms, append_assoc (flat ls) (flat ms));
      count = λ rest. rw (append_assoc xs ys rest, a.count (ys ++ rest), b.count rest, length-append ls ms) (omega arith);
      short = simp length-append (omega (arith, a.short, b.short));
    }

finished_is : (label : ℕ) (ws : List ℕ) (kind : Kind) (value : ℕ) → finished (during label ws kind value) ≡ numbers (ended_by kind (during label ws kind value))
unfolding finished last if_right ended pick
finished_is label ws kind value = refl

pub line-ends : {bytes : List ℕ} {label w : ℕ} {ws : List ℕ} → Words bytes label (w ∷ ws) → length ws ≤ 3
    → Lines (bytes ++ ascii "\n") (line label (statement w) (get_or ws 0 0) (get_or ws 1 0) (get_or ws 2 0) ∷ [])
unfolding flat numbers pick
line-ends {bytes} {label} {w} {ws} words h =
    let now = during label words.before words.kind words.value in
    record {
      lines =
          λ rest.
          rw append_assoc
          (lines_plain start bytes (line_feed ∷ rest) words.plain
          ∙ rw words.read (feed_ends now line_feed rest refl ∙ rw (finished_is label words.before words.kind words.value, words.ended)));
      count = λ rest. rw append_assoc (count_plain bytes (line_feed ∷ rest) words.plain ∙ count_of line_feed rest);
      short = simp length-append (omega (arith, words.short));
    }

pub blank-line : Lines (ascii "\n") (blank ∷ [])
unfolding flat start numbers statement last if_right ended ended_by finished lines_from pick
blank-line = record { lines = λ rest. refl; count = λ rest. count_of line_feed rest; short = omega arith }

-- ---- Margins

pub no_margin : Gap [] 0 []
unfolding start
no_margin = record { plain = refl; read = refl; some = tt; short = omega arith }

wide_margin : Gap (ascii "        ") 0 []
unfolding start next read_byte if_right is_space ended ended_by pick both either
wide_margin = record { plain = refl; read = refl; some = tt; short = omega arith }

-- the spaces behind a label
record Spaces (xs : List ℕ) : Type 0 where
  plain : every is_plain xs ≡ true
  read : (label : ℕ) → reads (between label []) xs ≡ between label []
  short : length xs ≤ 4

some_spaces : (n : ℕ) → n ≤ 4 → Spaces (replicate n space)
unfolding next read_byte if_right is_space ended ended_by pick both either
some_spaces zero h = record { plain = refl; read = λ label. refl; short = omega arith }
some_spaces (suc n) h =
    let fewer = some_spaces n (omega arith) in
    record { plain = fewer.plain; read = fewer.read; short = omega (arith, length-replicate n space) }

spaces_are : (j : ℕ) → Spaces (spaces j)
unfolding spaces
spaces_are j =
    pick_case Spaces (λ _. some_spaces 4 (omega arith)) (λ _. pick_case Spaces (λ _. some_spaces 3 (omega arith)) (λ _. some_spaces 2 (omega arith)))

colon_ends : (kind : Kind) (value w : ℕ) → ended_by kind (during 0 [] kind value) ≡ between 0 (w ∷ []) → 65535 < w → next (during 0 [] kind value) (code ":") ≡ between w []
unfolding next read_byte if_right is_space ended labelled with_words pick both either
colon_ends kind value w e h = rw (e, lt-ltb 65535 w h)

label_margin : {xs ys : List ℕ} {w : ℕ} → Word xs w → 65535 < w → Spaces ys → Gap (xs ++ ascii ":" ++ ys) w []
unfolding start both
label_margin {xs} {ys} {w} word h spaces =
    let ended = word.ended 0 [] ∙ added_is 0 [] word.kind word.value w (omega arith) tt in
    record {
      plain = every_append is_plain (xs ++ ascii ":") ys (every_append is_plain xs (ascii ":") word.plain refl) spaces.plain;
      read =
          reads_append start (xs ++ ascii ":") ys
          ∙ rw (reads_append start xs (ascii ":"), word.read 0 [], colon_ends word.kind word.value w ended h) (spaces.read w);
      some = tt;
      short = simp length-append (omega (arith, word.short, spaces.short));
    }

pub margin-gap : (p : List ℕ) (i j : ℕ) → j ≤ 65535 → Gap (margin p i j) (label_of p i j) []
unfolding margin label_of
margin-gap p i j h =
    pick-both (λ (xs : List ℕ) (label : ℕ). Gap xs label []) (λ _. label_margin (label_word_lem j h) (omega arith) (spaces_are j)) (λ _. wide_margin)
