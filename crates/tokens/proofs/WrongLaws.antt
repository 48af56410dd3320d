-- Laws of what is wrong in a line that is read: nothing, or one of `Wrong`. Assumes nothing.
use Prim.Native.Nat.{ℕ, zero, suc, ◌*◌, ◌<◌}
use mathlib.Core.Bool.{Bool, true, false}
use mathlib.Core.List.{List, [], ◌∷◌, ◌++◌}
use mathlib.Core.Path.{◌≡◌, refl, ap}
use native.Mathlib.Omega.{arith}
use lib.ListN.{length, get_or}
use Rattle.model.specs.Test.{pick}
use Rattle.tokens.specs.Reads.{Known, AllKnown, KnownSoFar}
use Rattle.tokens.specs.Tokens.{start, mistaken, with_word, with_words, in_comment, sized, digit, begun, after_zero, longer, goes_on, added, ended_by, ended, labelled, if_right, read_byte, next, last, numbers, all_numbers}
use Rattle.tokens.specs.declared.Kind.{Kind}
use Rattle.tokens.specs.declared.Progress.{Progress}
use Rattle.tokens.specs.declared.Reading.{Reading}
use Rattle.tokens.specs.declared.SourceLine.{SourceLine}
use Rattle.tokens.specs.declared.Wrong.{Wrong}

-- ---- A line, byte by byte

picked_known : (b : Bool) (now next : Reading) → Known now.wrong → Known next.wrong → Known (pick b now next).wrong
unfolding pick
picked_known true now next h k = h
picked_known false now next h k = k

mistaken_known : (now : Reading) (wrong : Wrong) → Known (mistaken now wrong).wrong
unfolding mistaken
mistaken_known now Wrong.Character = omega arith
mistaken_known now Wrong.NumberLarge = omega arith
mistaken_known now Wrong.NumberForm = omega arith
mistaken_known now Wrong.NameLong = omega arith
mistaken_known now Wrong.WordsMany = omega arith
mistaken_known now Wrong.Colon = omega arith

module _ (now : Reading) (h : Known now.wrong) where
  word_known : (kind : Kind) (value : ℕ) → Known (with_word now kind value).wrong
  unfolding with_word
  word_known kind value = h

  words_known : (label first second third fourth : ℕ) → Known (with_words now label first second third fourth).wrong
  unfolding with_words
  words_known label first second third fourth = h

  comment_known : Known (in_comment now).wrong
  unfolding in_comment
  comment_known = h

  digit_known : (kind : Kind) (base c : ℕ) → Known (digit now kind base c).wrong
  unfolding digit sized
  digit_known kind base c = picked_known _ _ _ (picked_known _ _ _ (word_known kind _) (mistaken_known now Wrong.NumberLarge)) (mistaken_known now Wrong.NumberForm)

  begun_known : (c : ℕ) → Known (begun now c).wrong
  unfolding begun
  begun_known c = picked_known _ _ _ (word_known Kind.Zero 0) (picked_known _ _ _ (word_known Kind.Decimal _) (word_known Kind.Name c))

  after_zero_known : (c : ℕ) → Known (after_zero now c).wrong
  unfolding after_zero
  after_zero_known c = picked_known _ _ _ (word_known Kind.HexMark 0) (digit_known Kind.Decimal 10 c)

  longer_known : (c : ℕ) → Known (longer now c).wrong
  unfolding longer
  longer_known c = picked_known _ _ _ (word_known Kind.Name _) (mistaken_known now Wrong.NameLong)

  goes_on_known : (kind : Kind) (c : ℕ) → Known (goes_on kind now c).wrong
  unfolding goes_on
  goes_on_known Kind.Nothing c = begun_known c
  goes_on_known Kind.Zero c = after_zero_known c
  goes_on_known Kind.Decimal c = digit_known Kind.Decimal 10 c
  goes_on_known Kind.HexMark c = digit_known Kind.Hex 16 c
  goes_on_known Kind.Hex c = digit_known Kind.Hex 16 c
  goes_on_known Kind.Name c = longer_known c

  added_known : (word : ℕ) → Known (added now word).wrong
  unfolding added
  added_known word =
      picked_known _ _ _ (words_known _ _ _ _ _)
      (picked_known _ _ _ (words_known _ _ _ _ _) (picked_known _ _ _ (words_known _ _ _ _ _) (picked_known _ _ _ (words_known _ _ _ _ _) (mistaken_known now Wrong.WordsMany))))

  ended_by_known : (kind : Kind) → Known (ended_by kind now).wrong
  unfolding ended_by
  ended_by_known Kind.Nothing = h
  ended_by_known Kind.Zero = added_known _
  ended_by_known Kind.Decimal = added_known _
  ended_by_known Kind.HexMark = mistaken_known now Wrong.NumberForm
  ended_by_known Kind.Hex = added_known _
  ended_by_known Kind.Name = added_known _

  ended_known : Known (ended now).wrong
  unfolding ended
  ended_known = ended_by_known now.kind

  labelled_known : Known (labelled now).wrong
  unfolding labelled
  labelled_known = picked_known _ _ _ (words_known _ _ _ _ _) (mistaken_known now Wrong.Colon)

  right_known : (after : Reading) → Known after.wrong → Known (if_right now after).wrong
  unfolding if_right
  right_known after k = picked_known _ _ _ k h

module _ (now : Reading) (h : Known now.wrong) where
  byte_known : (byte : ℕ) → Known (read_byte now byte).wrong
  unfolding read_byte
  byte_known byte =
      let end = ended_known now h in
      picked_known _ _ _ end
      (picked_known _ _ _ (comment_known (ended now) end)
      (picked_known _ _ _ (right_known (ended now) end _ (labelled_known (ended now) end)) (picked_known _ _ _ (mistaken_known now Wrong.Character) (goes_on_known now h now.kind _))))

  -- a byte of the line, and its end
  pub next_known : (byte : ℕ) → Known (next now byte).wrong
  unfolding next
  next_known byte = right_known now h _ (picked_known _ _ _ h (byte_known byte))

  pub last_known : Known (last now).wrong
  unfolding last
  last_known = right_known now h _ (picked_known _ _ _ h (ended_known now h))

-- ---- Lines in a room

pub start_known : (now : Reading) → now ≡ start → Known now.wrong
unfolding start
start_known now e = rw e (omega arith)

-- what is wrong in line i is the first of its six numbers
abbrev KnownNumbers : List ℕ → Type 0
KnownNumbers room = (i : ℕ) → Known (get_or room (6 * i) 0)

six_more : (i : ℕ) → 6 * suc i ≡ suc (suc (suc (suc (suc (suc (6 * i))))))
six_more i = omega arith

numbers_at : (ls : List SourceLine) (i : ℕ) (d : SourceLine) → i < length ls → get_or (all_numbers ls) (6 * i) 0 ≡ (get_or ls i d).wrong
unfolding all_numbers
numbers_at [] i d h = absurd (omega arith)
numbers_at (l ∷ ls) zero d h = refl
numbers_at (l ∷ ls) (suc i) d h = rw (six_more i) (numbers_at ls i d (omega arith))

numbers_known : (ls : List SourceLine) (now : Reading) → AllKnown ls → Known now.wrong → KnownNumbers (all_numbers ls ++ numbers now)
unfolding all_numbers numbers
numbers_known [] now k h zero = h
numbers_known [] now k h (suc i) = rw (six_more i) (omega arith)
numbers_known (l ∷ ls) now k h zero = k 0 l (omega arith)
numbers_known (l ∷ ls) now k h (suc i) = rw (six_more i) (numbers_known ls now (λ j d f. k (suc j) d (omega arith)) h i)

-- before a text, and with a line that was put behind those that stand there
pub none_read : (room : List SourceLine) (p : Progress) → p.done ≡ 0 → p.reading ≡ start → KnownSoFar room p
none_read room p e f = (rw e (λ i d h. absurd (omega arith)), start_known p.reading f)

pub known_written : (ls ks : List SourceLine) (now : Reading) → AllKnown ls → Known now.wrong → all_numbers ks ≡ all_numbers ls ++ numbers now → AllKnown ks
known_written ls ks now k h e i d f =
    let one : Known (get_or (all_numbers ls ++ numbers now) (6 * i) 0) = numbers_known ls now k h i in
    let same : get_or (all_numbers ks) (6 * i) 0 ≡ get_or (all_numbers ls ++ numbers now) (6 * i) 0 = ap (λ (l : List ℕ). get_or l (6 * i) 0) e in
    omega (arith, one, same, numbers_at ks i d f)
