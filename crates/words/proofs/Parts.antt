-- The parts of a device's words: each part read back is the part (`-back`), the words of what was read are the words (`-forth`), and
-- lists spelt out word by word. Assumes nothing.
use Prim.Native.Nat.{ℕ, zero, suc, ◌+◌, ◌*◌, ◌≤◌, ◌<◌}
use mathlib.Core.Bool.{Bool, true, false}
use mathlib.Core.List.{List, [], ◌∷◌, ◌++◌}
use mathlib.Core.Path.{◌≡◌, refl, sym, ap, ◌∙◌}
use native.Mathlib.Omega.{arith}
use lib.Dec.{eqb, leb}
use lib.ListN.{length, drop}
use lib.Seq.{drop-cons, drop-length}
use borrow.Author.Tests.{lt-ltb, le-ltb, le-leb, lt-leb, eq-eqb, ne_eqb, eqb-true, leb-true}
use Rattle.model.proofs.TestLaws.{pick_true, pick-false, same_or, below_or, and_true, and_left, and_right}
use Rattle.model.specs.Device.{burst_length}
use Rattle.model.specs.Program.{word}
use Rattle.model.specs.Test.{pick, ◌and◌, both}
use Rattle.model.specs.Types.{Some, None}
use Rattle.model.specs.declared.Answer.{Answer}
use Rattle.model.specs.declared.Body.{Body}
use Rattle.model.specs.declared.Handler.{Handler}
use Rattle.model.specs.declared.Handler.TheVariants.{Resting, Storing, Dropping, Replacing}
use Rattle.model.specs.declared.Place.{Place}
use Rattle.model.specs.declared.Place.TheVariants.{Free, Run, Half}
use Rattle.words.specs.Words.{flag, kind, number, place_words, handler_words, accepted_words}
use Rattle.words.specs.Words.{body_of, place_of, is_place, handler_of, is_handler, is_record, are_records, burst_of}
use Rattle.words.specs.Words.{refused_words, answer_words}

-- from the facts that a function's tests leave to the tests of its definition
pub ruleset tests = (le-leb, lt-leb, eq-eqb, ne_eqb)

-- a test that holds
pub and_skip : {a : Bool} (b : Bool) → a ≡ true → (a and b) ≡ b
unfolding both
and_skip b e = rw e

-- ---- Lists spelt out

-- n words of a list, from word i on
unfoldable pub spelt : List ℕ → ℕ → ℕ → List ℕ
spelt l i zero = []
spelt l i (suc n) = word l i ∷ spelt l (suc i) n

spelt_drop : (l : List ℕ) (i n : ℕ) → i + n ≡ length l → spelt l i n ≡ drop i l
unfolding spelt
spelt_drop l i zero h =
    let e : i ≡ length l = omega arith in
    rw e (sym (drop-length l))
spelt_drop l i (suc n) h =
    let b : i < length l = omega arith in
    rw (drop-cons l i 0 b, spelt_drop l (suc i) n (omega arith))

pub spelt_all : (l : List ℕ) (n : ℕ) → length l ≡ n → spelt l 0 n ≡ l
spelt_all l n h = spelt_drop l 0 n (omega arith)

-- a function of five words, at the words of a list
abbrev pub five {ℓ} : {A : Type ℓ} → (ℕ → ℕ → ℕ → ℕ → ℕ → A) → List ℕ → A
five f w = f (word w 0) (word w 1) (word w 2) (word w 3) (word w 4)

-- a function of three words, at the words of a list
abbrev pub three {ℓ} : {A : Type ℓ} → (ℕ → ℕ → ℕ → A) → List ℕ → A
three f w = f (word w 0) (word w 1) (word w 2)

pub place_spelt : (x : Place) (y : List ℕ) → five (λ p k n j c. p ∷ k ∷ n ∷ j ∷ c ∷ y) (place_words x) ≡ place_words x ++ y
unfolding place_words
place_spelt (Free c) y = refl
place_spelt (Run b j c) y = refl
place_spelt (Half b j) y = refl

pub handler_spelt : (h : Handler) (y : List ℕ) → three (λ k n c. k ∷ n ∷ c ∷ y) (handler_words h) ≡ handler_words h ++ y
unfolding handler_words
handler_spelt Resting y = refl
handler_spelt (Storing n c) y = refl
handler_spelt Dropping y = refl
handler_spelt (Replacing c) y = refl

pub answer_spelt : (a : Answer) (y : List ℕ) → five (λ p k n i j. p ∷ k ∷ n ∷ i ∷ j ∷ y) (answer_words a) ≡ answer_words a ++ y
unfolding answer_words accepted_words refused_words
answer_spelt Answer.Done y = refl
answer_spelt (Answer.Chosen b) y = refl
answer_spelt Answer.Worked y = refl
answer_spelt Answer.Stored y = refl
answer_spelt (Answer.Committed b) y = refl
answer_spelt (Answer.Accepted None) y = refl
answer_spelt (Answer.Accepted (Some r)) y = refl
answer_spelt (Answer.Refused e) y = refl

-- ---- on

pub flag_is : (b : Bool) → leb (flag b) 1 ≡ true
unfolding flag
flag_is true = refl
flag_is false = refl

pub flag_back : (b : Bool) → eqb (flag b) 1 ≡ b
unfolding flag
flag_back true = refl
flag_back false = refl

pub flag_forth : (n : ℕ) → leb n 1 ≡ true → flag (eqb n 1) ≡ n
unfolding flag
flag_forth n h =
    let b = leb-true n 1 h in
    same_or n 1 (λ e. rw (eq-eqb n 1 e) (sym e)) (λ e. rw (ne_eqb n 1 e) (omega arith))

-- ---- body

pub body_back : (b : Body) → body_of (kind b) (number b) ≡ b
unfolding body_of kind number pick
body_back (Body.Task n) = refl
body_back (Body.Event n) = refl

pub kind_is : (b : Body) → leb (kind b) 1 ≡ true
unfolding kind
kind_is (Body.Task n) = refl
kind_is (Body.Event n) = refl

kind_forth : (k n : ℕ) → leb k 1 ≡ true → kind (body_of k n) ≡ k
unfolding body_of kind pick
kind_forth k n h =
    let b = leb-true k 1 h in
    same_or k 0 (λ e. rw (eq-eqb k 0 e) (sym e)) (λ e. rw (ne_eqb k 0 e) (omega arith))

number_forth : (k n : ℕ) → number (body_of k n) ≡ n
unfolding body_of number pick
number_forth k n = same_or k 0 (λ e. rw (eq-eqb k 0 e)) (λ e. rw (ne_eqb k 0 e))

-- ---- place

pub place_is : (x : Place) → five is_place (place_words x) ≡ true
unfolding is_place place_words pick both
place_is (Free c) = refl
place_is (Run b j c) = simp (kind_is b)
place_is (Half b j) = simp (kind_is b)

pub place_back : (x : Place) → five place_of (place_words x) ≡ x
unfolding place_of place_words pick
place_back (Free c) = refl
place_back (Run b j c) = simp (body_back b)
place_back (Half b j) = simp (body_back b)

pub place_forth : (p k n j c : ℕ) → is_place p k n j c ≡ true → place_words (place_of p k n j c) ≡ p ∷ k ∷ n ∷ j ∷ c ∷ []
unfolding is_place place_of place_words pick both
place_forth p k n j c h = same_or p 0 free (λ z. same_or p 1 (run z) (half z))
  where
    free : p ≡ 0 → place_words (place_of p k n j c) ≡ p ∷ k ∷ n ∷ j ∷ c ∷ []
    free e =
        let t : (eqb k 0 and eqb n 0 and eqb j 0) ≡ true = simp (eq-eqb p 0 e) at h in
        let u = and_right (eqb k 0) (eqb n 0 and eqb j 0) t in
        simp (
          e,
          eqb-true k 0 (and_left (eqb k 0) (eqb n 0 and eqb j 0) t),
          eqb-true n 0 (and_left (eqb n 0) (eqb j 0) u),
          eqb-true j 0 (and_right (eqb n 0) (eqb j 0) u),
        )

    run : (p ≡ 0 → ⊥) → p ≡ 1 → place_words (place_of p k n j c) ≡ p ∷ k ∷ n ∷ j ∷ c ∷ []
    run z e =
        let t : (leb k 1 and true) ≡ true = simp (ne_eqb p 0 z, eq-eqb p 1 e) at h in
        simp (e, kind_forth k n (and_left (leb k 1) true t), number_forth k n)

    half : (p ≡ 0 → ⊥) → (p ≡ 1 → ⊥) → place_words (place_of p k n j c) ≡ p ∷ k ∷ n ∷ j ∷ c ∷ []
    half z o =
        let t : (leb k 1 and (eqb p 2 and eqb c 0)) ≡ true = simp (ne_eqb p 0 z, ne_eqb p 1 o) at h in
        let u = and_right (leb k 1) (eqb p 2 and eqb c 0) t in
        simp (
          eqb-true p 2 (and_left (eqb p 2) (eqb c 0) u),
          eqb-true c 0 (and_right (eqb p 2) (eqb c 0) u),
          kind_forth k n (and_left (leb k 1) (eqb p 2 and eqb c 0) t),
          number_forth k n,
        )

-- ---- handler

pub handler_is : (h : Handler) → three is_handler (handler_words h) ≡ true
unfolding is_handler handler_words pick both
handler_is Resting = refl
handler_is (Storing n c) = refl
handler_is Dropping = refl
handler_is (Replacing c) = refl

pub handler_back : (h : Handler) → three handler_of (handler_words h) ≡ h
unfolding handler_of handler_words pick
handler_back Resting = refl
handler_back (Storing n c) = refl
handler_back Dropping = refl
handler_back (Replacing c) = refl

pub handler_forth : (h n c : ℕ) → is_handler h n c ≡ true → handler_words (handler_of h n c) ≡ h ∷ n ∷ c ∷ []
unfolding is_handler handler_of handler_words pick both
handler_forth h n c t = same_or h 0 rests stores
  where
    rests : h ≡ 0 → handler_words (handler_of h n c) ≡ h ∷ n ∷ c ∷ []
    rests z =
        let u : (eqb n 0 and eqb c 0) ≡ true = simp (eq-eqb h 0 z) at t in
        simp (z, eqb-true n 0 (and_left (eqb n 0) (eqb c 0) u), eqb-true c 0 (and_right (eqb n 0) (eqb c 0) u))

    stores : (h ≡ 0 → ⊥) → handler_words (handler_of h n c) ≡ h ∷ n ∷ c ∷ []
    stores z = same_or h 1 (λ one. simp (one)) (λ no_one. drops no_one (simp (ne_eqb h 0 z, ne_eqb h 1 no_one) at t))
      where
        drops : (h ≡ 1 → ⊥) → (eqb n 1 and pick (eqb h 2) (eqb c 0) (eqb h 3)) ≡ true → handler_words (handler_of h n c) ≡ h ∷ n ∷ c ∷ []
        drops no_one u =
            let length_is = eqb-true n 1 (and_left (eqb n 1) _ u) in
            let rest = and_right (eqb n 1) _ u in
            same_or h 2
            (λ two. let none_made : eqb c 0 ≡ true = simp (eq-eqb h 2 two) at rest in simp (two, length_is, eqb-true c 0 none_made))
            (λ no-two. let three-is : eqb h 3 ≡ true = simp (ne_eqb h 2 no-two) at rest in simp (eqb-true h 3 three-is, length_is))

-- the length stands in the second word, of a handler at rest 0
pub handler-length : (h : Handler) → word (handler_words h) 1 ≡ burst_length h
unfolding handler_words burst_length
handler-length Resting = refl
handler-length (Storing n c) = refl
handler-length Dropping = refl
handler-length (Replacing c) = refl

pub length-read : (h n c : ℕ) → is_handler h n c ≡ true → burst_length (handler_of h n c) ≡ n
unfolding handler_words
length-read h n c t = sym (handler-length (handler_of h n c)) ∙ ap (λ (ws : List ℕ). word ws 1) (handler_forth h n c t)

-- ---- the burst: zeros behind its records

record_is : (n i e x : ℕ) → (n ≤ i → (e ≡ 0) × (x ≡ 0)) → is_record n i e x ≡ true
unfolding is_record
record_is n i e x h =
    below_or i n (λ l. pick_true _ _ (lt-ltb _ _ l)) (λ l. pick-false _ _ (le-ltb _ _ l) ∙ and_true (eq-eqb _ _ (h l).0) (eq-eqb _ _ (h l).1))

record_zero : (n i e x : ℕ) → is_record n i e x ≡ true → n ≤ i → (e ≡ 0) × (x ≡ 0)
unfolding is_record
record_zero n i e x t l =
    let u : (eqb e 0 and eqb x 0) ≡ true = sym (pick-false _ _ (le-ltb _ _ l)) ∙ t in
    (eqb-true e 0 (and_left _ _ u), eqb-true x 0 (and_right _ _ u))

pub records_are : (n : ℕ) (b : List ℕ) → ((i : ℕ) → 2 * n ≤ i → word b i ≡ 0) → are_records n b ≡ true
unfolding are_records
records_are n b h =
    and_true (record_is n 0 _ _ (λ l. (h 0 (omega arith), h 1 (omega arith))))
    (and_true (record_is n 1 _ _ (λ l. (h 2 (omega arith), h 3 (omega arith))))
    (and_true (record_is n 2 _ _ (λ l. (h 4 (omega arith), h 5 (omega arith)))) (record_is n 3 _ _ (λ l. (h 6 (omega arith), h 7 (omega arith))))))

pub zero-behind : (n : ℕ) (w : List ℕ) → are_records n (burst_of w) ≡ true → (i : ℕ) → 2 * n ≤ i → word (burst_of w) i ≡ 0
unfolding are_records
zero-behind n w t zero l = (record_zero n 0 _ _ (and_left _ _ t) (omega arith)).0
zero-behind n w t (suc zero) l = (record_zero n 0 _ _ (and_left _ _ t) (omega arith)).1
zero-behind n w t (suc (suc zero)) l = (record_zero n 1 _ _ (and_left _ _ (and_right _ _ t)) (omega arith)).0
zero-behind n w t (suc (suc (suc zero))) l = (record_zero n 1 _ _ (and_left _ _ (and_right _ _ t)) (omega arith)).1
zero-behind n w t (suc (suc (suc (suc zero)))) l = (record_zero n 2 _ _ (and_left _ _ (and_right _ _ (and_right _ _ t))) (omega arith)).0
zero-behind n w t (suc (suc (suc (suc (suc zero))))) l = (record_zero n 2 _ _ (and_left _ _ (and_right _ _ (and_right _ _ t))) (omega arith)).1
zero-behind n w t (suc (suc (suc (suc (suc (suc zero)))))) l = (record_zero n 3 _ _ (and_right _ _ (and_right _ _ (and_right _ _ t))) (omega arith)).0
zero-behind n w t (suc (suc (suc (suc (suc (suc (suc zero))))))) l = (record_zero n 3 _ _ (and_right _ _ (and_right _ _ (and_right _ _ t))) (omega arith)).1
zero-behind n w t (suc (suc (suc (suc (suc (suc (suc (suc i)))))))) l = refl
