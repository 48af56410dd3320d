-- Laws of the lines that a program's text is read as: which line stands where, and what holds of each kind of line holds of every line.
-- The lists of lines are made block by block; one law says where a block's lines are. Assumes nothing.
use Prim.Native.Nat.{ℕ, zero, suc, ◌+◌, ◌-◌, ◌*◌, ◌≤◌, ◌<◌}
use mathlib.Core.Bool.{Bool, true, false}
use mathlib.Core.List.{List, [], ◌∷◌, ◌++◌}
use mathlib.Core.Path.{◌≡◌, refl, subst, ap, ◌∙◌}
use native.Mathlib.Nat.{add-zero, add_assoc}
use native.Mathlib.Numerals.{add-one}
use native.Mathlib.Omega.{arith}
use lib.ListN.{length, get_or, length-append, get_or-append}
use lib.Seq.{get_or-append-add, get_or-append_seam}
use Rattle.assembly.specs.Lines.{line_at}
use Rattle.assembly.specs.Lines.{Line}
use Rattle.listing.specs.Listing.{has_number}
use Rattle.model.proofs.TestLaws.{same_or, below_or, pick_true, pick-false}
use Rattle.model.specs.Program.{tasks, bodies, instructions}
use Rattle.model.specs.Test.{pick}
use Rattle.round_trip.specs.Expected.{blank, memory_of, entry_of, transaction_of, transactions_of, heading_of, instruction_of, instructions_of, body_of, bodies_of, expected, flat}

-- ---- A list that is made block by block, f i behind g i

module _ {A : Type 0} (f g : ℕ → List A) (none : g 0 ≡ []) (more : (n : ℕ) → g (suc n) ≡ g n ++ f n) where
  length_more : (n : ℕ) → length (g (suc n)) ≡ length (g n) + length (f n)
  length_more n = ap length (more n) ∙ length-append (g n) (f n)

  length-least : (m i : ℕ) → i ≤ m → length (g i) ≤ length (g m)
  length-least zero i h = let same : i ≡ 0 = omega arith in rw same (omega arith)
  length-least (suc m) i h =
      same_or i (suc m)
      (λ same. omega (arith, ap (λ (k : ℕ). length (g k)) same))
      (λ other. omega (arith, length_more m, length-least m i (omega (arith, other))))

  in_block : (d : A) (m i k : ℕ) → i < m → k < length (f i) → get_or (g m) (length (g i) + k) d ≡ get_or (f i) k d
  in_block d zero i k h l = absurd (omega arith)
  in_block d (suc m) i k h l =
      rw (more m)
      (same_or i m
      (λ same. rw same (get_or-append-add (g m) (f m) k d))
      (λ other.
      get_or-append (g m) (f m) d (length (g i) + k) (omega (arith, length-least m (suc i) (omega (arith, other)), length_more i))
      ∙ in_block d m i k (omega (arith, other)) l))

  -- what holds in each block holds everywhere
  by_block : (Q : ℕ → Type 0) (m : ℕ) → ((i k : ℕ) → i < m → k < length (f i) → Q (length (g i) + k)) → (x : ℕ) → x < length (g m) → Q x
  by_block Q zero q x h = absurd (omega (arith, ap length none))
  by_block Q (suc m) q x h =
      below_or x (length (g m))
      (by_block Q m (λ i k l. q i k (omega arith)) x)
      (λ past.
      let place : length (g m) + (x - length (g m)) ≡ x = omega arith in
      subst Q place (q m (x - length (g m)) (omega arith) (omega (arith, length_more m))))

-- ---- Lines as six numbers each

flat-suc : (l : Line) (ls : List Line) (i : ℕ) → line_at (flat (l ∷ ls)) (suc i) ≡ line_at (flat ls) i
unfolding line_at flat
flat-suc l ls i =
    let first : 6 * suc i ≡ suc (suc (suc (suc (suc (suc (6 * i)))))) = omega arith in
    let next : (k : ℕ) → 6 * suc i + k ≡ suc (suc (suc (suc (suc (suc (6 * i + k)))))) = λ k. omega arith in
    rw (next 1, next 2, next 3, next 4, next 5, first)

flat-at : (ls : List Line) (i : ℕ) → i < length ls → line_at (flat ls) i ≡ get_or ls i blank
unfolding line_at flat
flat-at [] i h = absurd (omega arith)
flat-at (l ∷ ls) zero h = refl
flat-at (l ∷ ls) (suc i) h = flat-suc l ls i ∙ flat-at ls i (omega arith)

-- ---- Where the lines of a program stand

abbrev pub room : List ℕ → List ℕ
room p = flat (expected p)

abbrev pub size : List ℕ → ℕ
size p = length (expected p)

-- the line of the number n + 1, where a task has it
unfoldable pub transaction_at : List ℕ → ℕ → ℕ
transaction_at p n = suc (suc (length (transactions_of p n)))

-- the empty line before body i, and behind the last
unfoldable pub body_at : List ℕ → ℕ → ℕ
body_at p i = transaction_at p 255 + length (bodies_of p i)

-- the first instruction of body i
abbrev pub code_at : List ℕ → ℕ → ℕ
code_at p i = suc (suc (body_at p i))

module _ (p : List ℕ) where
  instructions-length : (i n : ℕ) → length (instructions_of p i n) ≡ n
  unfolding instructions_of
  instructions-length i zero = refl
  instructions-length i (suc n) = length-append (instructions_of p i n) (instruction_of p i n ∷ []) ∙ omega (arith, instructions-length i n)

  pub next-body : (i : ℕ) → body_at p (suc i) ≡ code_at p i + instructions p i
  unfolding body_at bodies_of
  next-body i = omega (arith, length_more (body_of p) (bodies_of p) refl (λ n. refl) i, instructions-length i (instructions p i))

  pub first-transaction : transaction_at p 0 ≡ 2
  unfolding transaction_at transactions_of
  first-transaction = refl

  abbrev transactions_from : ℕ → List Line
  transactions_from n = pick (has_number p (suc n) (tasks p)) (transaction_of (suc n) ∷ []) []

  transaction-length : (n : ℕ) → transaction_at p (suc n) ≡ transaction_at p n + length (transactions_from n)
  unfolding transaction_at transactions_of
  transaction-length n = omega (arith, length-append (transactions_of p n) (transactions_from n))

  pub next-transaction : (n : ℕ) → has_number p (suc n) (tasks p) ≡ true → transaction_at p (suc n) ≡ suc (transaction_at p n)
  next-transaction n has = omega (arith, transaction-length n, ap length (pick_true (transaction_of (suc n) ∷ []) [] has))

  pub no_transaction_lem : (n : ℕ) → has_number p (suc n) (tasks p) ≡ false → transaction_at p (suc n) ≡ transaction_at p n
  no_transaction_lem n has = omega (arith, transaction-length n, ap length (pick-false (transaction_of (suc n) ∷ []) [] has))

  pub first_body : body_at p 0 ≡ transaction_at p 255
  unfolding body_at bodies_of
  first_body = add-zero (transaction_at p 255)

  -- ---- which they are

  abbrev front : List Line
  front = memory_of p ∷ entry_of p ∷ transactions_of p 255

  abbrev without_last : List Line
  without_last = front ++ bodies_of p (bodies p)

  last-at : length without_last ≡ body_at p (bodies p)
  unfolding body_at transaction_at
  last-at = length-append front (bodies_of p (bodies p))

  pub lines_are : size p ≡ suc (body_at p (bodies p))
  unfolding expected
  lines_are = omega (arith, length-append without_last (blank ∷ []), last-at)

  at-line : (x : ℕ) → x < body_at p (bodies p) → line_at (room p) x ≡ get_or without_last x blank
  unfolding expected
  at-line x h =
      flat-at (expected p) x (omega (arith, lines_are))
      ∙ get_or-append without_last (blank ∷ []) blank x (omega (arith, last-at))

  at_last : line_at (room p) (body_at p (bodies p)) ≡ blank
  unfolding expected
  at_last =
      flat-at (expected p) (body_at p (bodies p)) (omega (arith, lines_are))
      ∙ rw (← last-at) (get_or-append_seam without_last blank [] blank)

  at_front : (x : ℕ) → x < length front → line_at (room p) x ≡ get_or front x blank
  at_front x h =
      at-line x (omega (arith, last-at, length-append front (bodies_of p (bodies p))))
      ∙ get_or-append front (bodies_of p (bodies p)) blank x h

  pub at-memory : line_at (room p) 0 ≡ memory_of p
  at-memory = at_front 0 (omega arith)

  pub at_entry : line_at (room p) 1 ≡ entry_of p
  at_entry = at_front 1 (omega arith)

  pub at-transaction : (n : ℕ) → n < 255 → has_number p (suc n) (tasks p) ≡ true → line_at (room p) (transaction_at p n) ≡ transaction_of (suc n)
  unfolding transactions_of transaction_at
  at-transaction n h has =
      let block : transactions_from n ≡ transaction_of (suc n) ∷ [] = pick_true _ _ has in
      let there = in_block transactions_from (transactions_of p) refl (λ m. refl) blank 255 n 0 h (rw block (omega arith)) in
      let inside = length-least transactions_from (transactions_of p) refl (λ m. refl) 255 (suc n) h in
      at_front (transaction_at p n) (omega (arith, inside, length-append (transactions_of p n) (transactions_from n), ap length block))
      ∙ (rw add-zero at there)
      ∙ rw block

  pub body-inside : (i : ℕ) → i < bodies p → body_at p (suc i) ≤ body_at p (bodies p)
  unfolding bodies_of body_at
  body-inside i h = omega (arith, length-least (body_of p) (bodies_of p) refl (λ n. refl) (bodies p) (suc i) h)

  pub transaction-inside : (n : ℕ) → n ≤ 255 → transaction_at p n ≤ body_at p (bodies p)
  unfolding transactions_of transaction_at body_at
  transaction-inside n h = omega (arith, length-least transactions_from (transactions_of p) refl (λ m. refl) 255 n h)

  body-length : (i : ℕ) → length (body_of p i) ≡ suc (suc (instructions p i))
  body-length i = omega (arith, instructions-length i (instructions p i))

  at_body : (i k : ℕ) → i < bodies p → k < length (body_of p i) → line_at (room p) (body_at p i + k) ≡ get_or (body_of p i) k blank
  unfolding bodies_of body_at transaction_at
  at_body i k h l =
      let place : body_at p i + k ≡ length front + (length (bodies_of p i) + k) = omega arith in
      at-line (body_at p i + k) (omega (arith, body-inside i h, next-body i, body-length i))
      ∙ rw place (get_or-append-add front (bodies_of p (bodies p)) (length (bodies_of p i) + k) blank)
      ∙ in_block (body_of p) (bodies_of p) refl (λ n. refl) blank (bodies p) i k h l

  pub at-blank : (i : ℕ) → i ≤ bodies p → line_at (room p) (body_at p i) ≡ blank
  at-blank i h =
      same_or i (bodies p)
      (λ same. rw same at_last)
      (λ other. rw add-zero at (at_body i 0 (omega (arith, other)) (omega (arith, body-length i))))

  pub at-heading : (i : ℕ) → i < bodies p → line_at (room p) (suc (body_at p i)) ≡ heading_of p i
  at-heading i h = rw add-one at (at_body i 1 h (omega (arith, body-length i)))

  pub at-instruction : (i j : ℕ) → i < bodies p → j < instructions p i → line_at (room p) (code_at p i + j) ≡ instruction_of p i j
  unfolding instructions_of
  at-instruction i j h l =
      let place : code_at p i + j ≡ body_at p i + suc (suc j) = omega arith in
      let one = in_block (λ k. instruction_of p i k ∷ []) (instructions_of p i) refl (λ n. refl) blank (instructions p i) j 0 l (omega arith) in
      rw place (at_body i (suc (suc j)) h (omega (arith, body-length i)))
      ∙ (rw (add-zero, instructions-length i j) at one)

  -- ---- what holds of each kind of line holds everywhere

  pub record Everywhere (Q : ℕ → Line → Type 0) : Type 0 where
    pub memory : Q 0 (memory_of p)
    pub entry : Q 1 (entry_of p)
    pub transaction : (n : ℕ) → n < 255 → has_number p (suc n) (tasks p) ≡ true → Q (transaction_at p n) (transaction_of (suc n))
    pub empty : (i : ℕ) → i ≤ bodies p → Q (body_at p i) blank
    pub heading : (i : ℕ) → i < bodies p → Q (suc (body_at p i)) (heading_of p i)
    pub instruction : (i j : ℕ) → i < bodies p → j < instructions p i → Q (code_at p i + j) (instruction_of p i j)

  module _ (Q : ℕ → Line → Type 0) (each : Everywhere Q) where
    abbrev At : ℕ → Type 0
    At x = Q x (line_at (room p) x)

    in_transaction : (n k : ℕ) → n < 255 → k < length (transactions_from n) → At (suc (suc (length (transactions_of p n) + k)))
    unfolding transaction_at
    in_transaction n k h l = go (has_number p (suc n) (tasks p)) refl where
      go : (b : Bool) → has_number p (suc n) (tasks p) ≡ b → At (suc (suc (length (transactions_of p n) + k)))
      go true has =
          let block : length (transactions_from n) ≡ 1 = ap length (pick_true _ _ has) in
          let place : length (transactions_of p n) + k ≡ length (transactions_of p n) = omega arith in
          rw (place, at-transaction n h has) (each.transaction n h has)
      go false has = absurd (omega (arith, ap length (pick-false (transaction_of (suc n) ∷ []) [] has)))

    in_front : (x : ℕ) → x < transaction_at p 255 → At x
    unfolding transactions_of transaction_at
    in_front zero h = rw at-memory each.memory
    in_front (suc zero) h = rw at_entry each.entry
    in_front (suc (suc x)) h = by_block transactions_from (transactions_of p) refl (λ n. refl) (λ y. At (suc (suc y))) 255 in_transaction x (omega arith)

    in_body : (i k : ℕ) → i < bodies p → k < length (body_of p i) → At (body_at p i + k)
    in_body i zero h l = rw (add-zero, at-blank i (omega arith)) (each.empty i (omega arith))
    in_body i (suc zero) h l = rw (add-one, at-heading i h) (each.heading i h)
    in_body i (suc (suc k)) h l =
        let place : body_at p i + suc (suc k) ≡ code_at p i + k = omega arith in
        let inside : k < instructions p i = omega (arith, body-length i) in
        rw (place, at-instruction i k h inside) (each.instruction i k h inside)

    pub every : (x : ℕ) → x < size p → At x
    unfolding bodies_of body_at
    every x h =
        let first = transaction_at p 255 in
        below_or x first (in_front x)
        (λ past.
        let place : first + (x - first) ≡ x = omega arith in
        below_or x (body_at p (bodies p))
        (λ inside.
        subst At place
        (by_block (body_of p) (bodies_of p) refl (λ n. refl) (λ y. At (first + y)) (bodies p)
        (λ i k l m. rw (add_assoc first (length (bodies_of p i)) k) at (in_body i k l m)) (x - first) (omega arith)))
        (λ end.
        let same : x ≡ body_at p (bodies p) = omega (arith, lines_are) in
        rw (same, at_last) (each.empty (bodies p) (omega arith))))
