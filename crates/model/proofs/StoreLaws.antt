-- What one store does to a store by its parts (specs/Store.antt). Nothing above this file sees where the parts lie.
-- Assumes nothing.
use Prim.Native.Nat.{ℕ, ◌+◌, ◌-◌, ◌*◌, ◌≤◌, ◌<◌}
use mathlib.Core.Path.{◌≡◌, refl, sym, ap, ◌∙◌}
use mathlib.Core.Bool.{true, false}
use mathlib.Core.List.{List}
use native.Mathlib.Omega.{arith}
use lib.Dec.{ltb, eqb}
use lib.ListN.{length, take, drop, set, length-set, length-take, length-drop}
use lib.Seq.{get_or-set_other, get_or-set_same, drop-set-lt, drop-set-add, take-set-le, take-set-lt}
use borrow.Author.Tests.{eqb-false, ltb-true}
use Rattle.model.specs.Program.{word}
use Rattle.model.specs.Store.{Store, view, memory_at, log_at, queue_at, store_length, Word, Phase, Task, Open, Count, Pending, PendingOpen, Head, Tail, Begun, Memory, Address, Value, Event, Datum, index, Write, none, to, settled, store_rule}

-- the store by its parts, of m memory words, l log pairs and q queue records
abbrev pub view_at : ℕ → ℕ → ℕ → List ℕ → Store
view_at m l q s =
    record {
      log_pairs = l;
      queue_records = q;
      phase = word s 8;
      task = word s 9;
      open_number = word s 10;
      count = word s 11;
      pending = word s 12;
      pending_open = word s 13;
      head = word s 14;
      tail = word s 15;
      begun = word s 16;
      memory = take m (drop memory_at s);
      log = take (2 * l) (drop (log_at m) s);
      queue = take (2 * (q + 1)) (drop (queue_at m l) s);
    }

-- a store from its parts, in the order of the record
abbrev pub parts : ℕ → ℕ → ℕ → ℕ → ℕ → ℕ → ℕ → ℕ → ℕ → ℕ → ℕ → List ℕ → List ℕ → List ℕ → Store
parts l q ph ta op n pe po h t g m lo qu =
    record { log_pairs = l; queue_records = q; phase = ph; task = ta; open_number = op; count = n; pending = pe; pending_open = po; head = h; tail = t; begun = g; memory = m; log = lo; queue = qu }

-- a store with another phase; other words 9, 10 and 14; other words 11 to 13; another word 16; another queue and tail; other memory, log and queue
-- words
abbrev pub with_phase : Store → ℕ → Store
with_phase v ph =
    parts v.log_pairs v.queue_records ph v.task v.open_number v.count v.pending v.pending_open v.head v.tail v.begun v.memory v.log v.queue

abbrev pub with_next : Store → ℕ → ℕ → ℕ → Store
with_next v ta op h =
    parts v.log_pairs v.queue_records v.phase ta op v.count v.pending v.pending_open h v.tail v.begun v.memory v.log v.queue

abbrev pub with_commit : Store → ℕ → ℕ → ℕ → Store
with_commit v n pe po =
    parts v.log_pairs v.queue_records v.phase v.task v.open_number n pe po v.head v.tail v.begun v.memory v.log v.queue

abbrev pub with_begun : Store → ℕ → Store
with_begun v g =
    parts v.log_pairs v.queue_records v.phase v.task v.open_number v.count v.pending v.pending_open v.head v.tail g v.memory v.log v.queue

abbrev pub with_queue : Store → List ℕ → ℕ → Store
with_queue v qu t =
    parts v.log_pairs v.queue_records v.phase v.task v.open_number v.count v.pending v.pending_open v.head t v.begun v.memory v.log qu

abbrev pub with_data : Store → List ℕ → List ℕ → List ℕ → Store
with_data v m lo qu =
    parts v.log_pairs v.queue_records v.phase v.task v.open_number v.count v.pending v.pending_open v.head v.tail v.begun m lo qu

-- the parts after one store
unfoldable pub apply : Store → Write → Store
apply v none = v
apply v (to Phase x) = with_phase v x
apply v (to Task x) = with_next v x v.open_number v.head
apply v (to Open x) = with_next v v.task x v.head
apply v (to Count x) = with_commit v x v.pending v.pending_open
apply v (to Pending x) = with_commit v v.count x v.pending_open
apply v (to PendingOpen x) = with_commit v v.count v.pending x
apply v (to Head x) = with_next v v.task v.open_number x
apply v (to Tail x) = with_queue v v.queue x
apply v (to Begun x) = with_begun v x
apply v (to (Memory a) x) = with_data v (set v.memory a x) v.log v.queue
apply v (to (Address j) x) = with_data v v.memory (set v.log (2 * j) x) v.queue
apply v (to (Value j) x) = with_data v v.memory (set v.log (2 * j + 1) x) v.queue
apply v (to (Event i) x) = with_data v v.memory v.log (set v.queue (2 * i) x)
apply v (to (Datum i) x) = with_data v v.memory v.log (set v.queue (2 * i + 1) x)

-- ---- a part after a store before it, behind it and in it

module _ (n a : ℕ) (s : List ℕ) where
  part_before : (i x : ℕ) → i < a → take n (drop a (set s i x)) ≡ take n (drop a s)
  part_before i x h = ap (take n) (drop-set-lt a s i x h)

  part_in : (j x : ℕ) → j < n → take n (drop a (set s (a + j) x)) ≡ set (take n (drop a s)) j x
  part_in j x h = ap (take n) (drop-set-add a s j x) ∙ take-set-lt n (drop a s) j x h

  part_behind : (i x : ℕ) → a + n ≤ i → take n (drop a (set s i x)) ≡ take n (drop a s)
  part_behind i x h =
      let j = i - a in
      let e : i ≡ a + j = omega arith in
      ap (λ (k : ℕ). take n (drop a (set s k x))) e ∙ ap (take n) (drop-set-add a s j x) ∙ take-set-le n (drop a s) j x (omega arith)

-- a word of contents or control after a store to another word, and after a store behind them
word_other : (s : List ℕ) (i x j : ℕ) → eqb j i ≡ false → word (set s i x) j ≡ word s j
word_other s i x j e = get_or-set_other s i j x 0 (eqb-false _ _ e)

word_low : (s : List ℕ) (i x : ℕ) → memory_at ≤ i → (j : ℕ) → ltb j memory_at ≡ true → word (set s i x) j ≡ word s j
word_low s i x h j e = get_or-set_other s i j x 0 (let l : j < memory_at = ltb-true _ _ e in omega arith)

-- ---- a store of m memory words, l log pairs and q queue records

pub record Sized (m l q : ℕ) (s : List ℕ) : Type 0 where
  pub length_is : length s ≡ store_length m l q
  pub memory_is : word s 1 ≡ m
  pub pairs_is : word s 2 ≡ l
  pub records_is : word s 3 ≡ q

-- a word that is there
abbrev pub Inside : ℕ → ℕ → ℕ → Word → Type 0
Inside m l q Phase = Unit {0}
Inside m l q Task = Unit {0}
Inside m l q Open = Unit {0}
Inside m l q Count = Unit {0}
Inside m l q Pending = Unit {0}
Inside m l q PendingOpen = Unit {0}
Inside m l q Head = Unit {0}
Inside m l q Tail = Unit {0}
Inside m l q Begun = Unit {0}
Inside m l q (Memory a) = a < m
Inside m l q (Address j) = j < l
Inside m l q (Value j) = j < l
Inside m l q (Event i) = i ≤ q
Inside m l q (Datum i) = i ≤ q

-- every store falls behind the contents
behind : (w : Word) (s : List ℕ) → 8 ≤ index s w
unfolding index
behind Phase s = omega arith
behind Task s = omega arith
behind Open s = omega arith
behind Count s = omega arith
behind Pending s = omega arith
behind PendingOpen s = omega arith
behind Head s = omega arith
behind Tail s = omega arith
behind Begun s = omega arith
behind (Memory a) s = omega arith
behind (Address a) s = omega arith
behind (Value a) s = omega arith
behind (Event a) s = omega arith
behind (Datum a) s = omega arith

module _ (m l q : ℕ) (s : List ℕ) (z : Sized m l q s) where
  pub view_is : view s ≡ view_at m l q s
  view_is = rw (z.memory_is, z.pairs_is, z.records_is)

  word_same : (i x : ℕ) → ltb i memory_at ≡ true → word (set s i x) i ≡ x
  word_same i x e = get_or-set_same s i x 0 (let h : i < memory_at = ltb-true _ _ e in omega (arith, z.length_is))

  control : (i x : ℕ) → ltb i memory_at ≡ true → (take m (drop memory_at (set s i x)) ≡ take m (drop memory_at s))
      × (take (2 * l) (drop (log_at m) (set s i x)) ≡ take (2 * l) (drop (log_at m) s))
      × (take (2 * (q + 1)) (drop (queue_at m l) (set s i x)) ≡ take (2 * (q + 1)) (drop (queue_at m l) s))
  control i x e =
      let h : i < memory_at = ltb-true _ _ e in
      (part_before m memory_at s i x h, part_before (2 * l) (log_at m) s i x (omega arith), part_before (2 * (q + 1)) (queue_at m l) s i x (omega arith))

  in_log : (j x : ℕ) → j < 2 * l → view_at m l q (set s (log_at m + j) x) ≡ parts l q (word s 8) (word s 9) (word s 10) (word s 11) (word s 12) (word s 13) (word s 14) (word s 15) (word s 16) (take m (drop memory_at s)) (set (take (2 * l) (drop (log_at m) s)) j x) (take (2 * (q + 1)) (drop (queue_at m l) s))
  in_log j x h =
      let i = log_at m + j in
      simp (
        word_low s i x (omega arith),
        part_behind m memory_at s i x (omega arith),
        part_in (2 * l) (log_at m) s j x h,
        part_before (2 * (q + 1)) (queue_at m l) s i x (omega arith),
      )

  in_queue : (j x : ℕ) → j < 2 * (q + 1) → view_at m l q (set s (queue_at m l + j) x) ≡ parts l q (word s 8) (word s 9) (word s 10) (word s 11) (word s 12) (word s 13) (word s 14) (word s 15) (word s 16) (take m (drop memory_at s)) (take (2 * l) (drop (log_at m) s)) (set (take (2 * (q + 1)) (drop (queue_at m l) s)) j x)
  in_queue j x h =
      let i = queue_at m l + j in
      simp (
        word_low s i x (omega arith),
        part_behind m memory_at s i x (omega arith),
        part_behind (2 * l) (log_at m) s i x (omega arith),
        part_in (2 * (q + 1)) (queue_at m l) s j x h,
      )

  pub view-settled : (w : Word) (x : ℕ) → Inside m l q w → view_at m l q (settled s (to w x)) ≡ apply (view_at m l q s) (to w x)
  unfolding settled index apply
  view-settled Phase x h = simp (word_other s 8 x, word_same 8 x, (control 8 x refl).0, (control 8 x refl).1, (control 8 x refl).2)
  view-settled Task x h = simp (word_other s 9 x, word_same 9 x, (control 9 x refl).0, (control 9 x refl).1, (control 9 x refl).2)
  view-settled Open x h = simp (word_other s 10 x, word_same 10 x, (control 10 x refl).0, (control 10 x refl).1, (control 10 x refl).2)
  view-settled Count x h = simp (word_other s 11 x, word_same 11 x, (control 11 x refl).0, (control 11 x refl).1, (control 11 x refl).2)
  view-settled Pending x h = simp (word_other s 12 x, word_same 12 x, (control 12 x refl).0, (control 12 x refl).1, (control 12 x refl).2)
  view-settled PendingOpen x h = simp (word_other s 13 x, word_same 13 x, (control 13 x refl).0, (control 13 x refl).1, (control 13 x refl).2)
  view-settled Head x h = simp (word_other s 14 x, word_same 14 x, (control 14 x refl).0, (control 14 x refl).1, (control 14 x refl).2)
  view-settled Tail x h = simp (word_other s 15 x, word_same 15 x, (control 15 x refl).0, (control 15 x refl).1, (control 15 x refl).2)
  view-settled Begun x h = simp (word_other s 16 x, word_same 16 x, (control 16 x refl).0, (control 16 x refl).1, (control 16 x refl).2)
  view-settled (Memory a) x h =
      let i = memory_at + a in
      simp (
        word_low s i x (omega arith),
        part_in m memory_at s a x h,
        part_before (2 * l) (log_at m) s i x (omega arith),
        part_before (2 * (q + 1)) (queue_at m l) s i x (omega arith),
      )
  view-settled (Address j) x h = rw z.memory_is (in_log (2 * j) x (omega arith))
  view-settled (Value j) x h = rw z.memory_is (in_log (2 * j + 1) x (omega arith))
  view-settled (Event i) x h = rw (z.memory_is, z.pairs_is) (in_queue (2 * i) x (omega arith))
  view-settled (Datum i) x h = rw (z.memory_is, z.pairs_is) (in_queue (2 * i + 1) x (omega arith))

  -- such a store leaves a store of these sizes
  pub settled-sized : (w : Word) (x : ℕ) → Inside m l q w → Sized m l q (settled s (to w x))
  unfolding settled
  settled-sized w x h =
      let i = index s w in
      let low : (j : ℕ) → j < 8 → word (set s i x) j ≡ word s j = λ j k. get_or-set_other s i j x 0 (let b : 8 ≤ index s w = behind w s in omega arith) in
      record {
        length_is = length-set s i x ∙ z.length_is;
        memory_is = low 1 (omega arith) ∙ z.memory_is;
        pairs_is = low 2 (omega arith) ∙ z.pairs_is;
        records_is = low 3 (omega arith) ∙ z.records_is;
      }

-- the view of the store after one store
pub view_after : (m l q : ℕ) (s : List ℕ) → Sized m l q s → (w : Word) (x : ℕ) → Inside m l q w → view (settled s (to w x)) ≡ apply (view s) (to w x)
view_after m l q s z w x h =
    view_is m l q (settled s (to w x)) (settled-sized m l q s z w x h)
    ∙ view-settled m l q s z w x h
    ∙ ap (λ (v : Store). apply v (to w x)) (sym (view_is m l q s z))

-- the parts have their lengths
pub lengths_are : (m l q : ℕ) (s : List ℕ) → Sized m l q s
    → (length (view_at m l q s).memory ≡ m) × (length (view_at m l q s).log ≡ 2 * l) × (length (view_at m l q s).queue ≡ 2 * (q + 1))
lengths_are m l q s z = (
  simp (length-take, length-drop) (omega (arith, z.length_is)),
  simp (length-take, length-drop) (omega (arith, z.length_is)),
  simp (length-take, length-drop) (omega (arith, z.length_is)),
)

-- 6 doesn't meet a store that had sound contents
pub rule-kept : (p s : List ℕ) (w : Word) (x : ℕ) → store_rule p (settled s (to w x)) ≡ store_rule p s
unfolding store_rule settled
rule-kept p s w x =
    let i = index s w in
    let b : 8 ≤ i = behind w s in
    let low : (j : ℕ) → ltb j 8 ≡ true → word (set s i x) j ≡ word s j =
    λ j e. get_or-set_other s i j x 0 (let h : j < 8 = ltb-true _ _ e in omega arith) in
    simp (low, length-set)
