-- Laws of lists of words: a part of the numbers, the words of a store before it is formatted, and zeros that are added. Assumes nothing.
use Prim.Native.Nat.{ℕ, suc, ◌+◌, ◌-◌, ◌*◌, ◌/◌, ◌%◌, ◌≤◌, ◌<◌, min, max}
use mathlib.Core.List.{List, [], ◌∷◌, ◌++◌, append-nil, append_assoc}
use mathlib.Core.Path.{◌≡◌, sym, ap, ◌∙◌}
use native.Mathlib.Nat.{mod-add-div, add-mul-mod_self_left}
use native.Mathlib.Omega.{arith}
use lib.ListN.{length, take, drop, replicate, length-drop, drop_of_length-le, replicate-append-replicate}
use lib.Seq.{take_all, take-take, length-take-le}
use Rattle.model.proofs.TestLaws.{below_or}
use Rattle.model.specs.Program.{word}
use Rattle.words.proofs.Parts.{spelt, spelt_all}
use Rattle.machine.specs.Machine.{resized}

-- ---- parts of the numbers

-- of nine words, the eight behind the first
pub behind-count : (ns : List ℕ) → length ns ≡ 9
    → drop 1 ns ≡ word ns 1 ∷ word ns 2 ∷ word ns 3 ∷ word ns 4 ∷ word ns 5 ∷ word ns 6 ∷ word ns 7 ∷ word ns 8 ∷ []
unfolding spelt
behind-count ns nine = sym (ap (drop 1) (spelt_all ns 9 nine))

-- those behind the first two, where there are fewer, too
pub behind-two : (ns : List ℕ) (k : ℕ) → k ≡ min (length ns) 2 → drop 2 ns ≡ take (length ns - k) (drop k ns)
behind-two ns k is = below_or (length ns) 2 few many
  where
    few : length ns < 2 → drop 2 ns ≡ take (length ns - k) (drop k ns)
    few h = let e : length ns - k ≡ 0 = omega arith in rw e (drop_of_length-le ns {i = 2} (omega arith))

    many : 2 ≤ length ns → drop 2 ns ≡ take (length ns - k) (drop k ns)
    many h =
        let e : k ≡ 2 = omega arith in
        rw e (sym (take_all (length ns - 2) (drop 2 ns) (rw length-drop (omega arith))))

-- ---- a word of the store before it is formatted

pub residue : (i : ℕ) → (40503 * (i % 65536) + 12345) % 65536 ≡ (40503 * i + 12345) % 65536
residue i =
    let e : 40503 * i + 12345 ≡ 40503 * (i % 65536) + 12345 + 65536 * (40503 * (i / 65536)) = omega (arith, mod-add-div i 65536) in
    rw (e, add-mul-mod_self_left (40503 * (i % 65536) + 12345) 65536 (40503 * (i / 65536)))

-- ---- zeros behind the first words, count of them

pub zeros-none : (count : ℕ) (ws : List ℕ) → take count ws ≡ take count ws ++ replicate (count - count) 0
zeros-none count ws = let e : count - count ≡ 0 = omega arith in rw e (sym (append-nil (take count ws)))

pub zeros_more : (ws : List ℕ) (count i : ℕ) → count ≤ i → (ws ++ replicate (i - count) 0) ++ (0 ∷ []) ≡ ws ++ replicate (suc i - count) 0
zeros_more ws count i h =
    let e : suc i - count ≡ i - count + 1 = omega arith in
    append_assoc ws (replicate (i - count) 0) (0 ∷ []) ∙ rw e (ap (λ (l : List ℕ). ws ++ l) (replicate-append-replicate (i - count) 1 0))

-- as many as were asked for, which are fewer than there were or more
module _ (ws us : List ℕ) (count new i : ℕ) (inside : count ≤ length ws) (least : count ≤ i) (most : i ≤ max count new) (all : new ≤ i)
    (filled : take i us ≡ take count ws ++ replicate (i - count) 0) where
  fewer : new ≤ count → take new us ≡ resized (take count ws) new
  unfolding resized
  fewer h =
      let e : i - count ≡ 0 = omega arith in
      let f : new - length (take count ws) ≡ 0 = rw (length-take-le count ws inside) (omega arith) in
      sym (take-take new i us all) ∙ ap (take new) filled ∙ rw (e, f, append-nil (take count ws)) (sym (append-nil (take new (take count ws))))

  more : count ≤ new → take new us ≡ resized (take count ws) new
  unfolding resized
  more h =
      let e : i ≡ new = omega arith in
      let f : length (take count ws) ≡ count = length-take-le count ws inside in
      rw (take_all new (take count ws) (omega (arith, f)), f, ← e) filled

  pub zeros_end : take new us ≡ resized (take count ws) new
  zeros_end = below_or new count (λ h. fewer (omega arith)) more
