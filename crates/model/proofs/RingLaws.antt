-- Laws of the ring (specs/Store.antt), for any number of slots: how far it is from slot to slot, what a new tail and a new head do to the
-- waiting records, and that the stores of records behind tail change none that waits. Slots are 0 to q. Assumes nothing.
use Rattle.model.specs.Types.{Record}
use Prim.Native.Nat.{ℕ, zero, suc, ◌+◌, ◌-◌, ◌*◌, ◌≤◌, ◌<◌}
use mathlib.Core.Path.{◌≡◌, refl, sym, ap, subst, ◌∙◌}
use mathlib.Core.Logic.{◌⊎◌, inl, inr, ◌≢◌}
use mathlib.Core.Bool.{Bool, true, false}
use mathlib.Core.List.{List, [], ◌∷◌, ◌++◌}
use native.Mathlib.Omega.{arith}
use lib.Dec.{ltb, leb}
use lib.ListN.{length, get_or, set}
use lib.Seq.{get_or-set_other, get_or-set_same}
use borrow.Author.Tests.{ltb-true, leb-true, leb-false, eqb-true, eqb-false, le-leb, lt-ltb}
use Rattle.model.proofs.FirstStores.{First}
use Rattle.model.proofs.TestLaws.{pick_case, pick_true, pick-false, clash, and_true, or_true_left}
use Rattle.model.specs.Accepted.{Known}
use Rattle.model.specs.Claims.{FullIsNoRoom}
use Rattle.model.specs.Burst.{records_at}
use Rattle.model.specs.Control.{between}
use Rattle.model.specs.Device.{record_stores}
use Rattle.model.specs.Program.{word, events}
use Rattle.model.specs.Store.{slot_after, forward, ring_word, distance, room, index, queue_at, slot, records_from, Phase, Task, Open, Count, Pending, PendingOpen, Head, Tail, Begun, Memory, Address, Value, Event, Datum, Write, none, to}
use Rattle.model.specs.Test.{pick, ◌and◌, ◌or◌, both, either}

-- ---- what the definitions say, in plain arithmetic

-- y is the slot after x
abbrev pub SlotAfter : ℕ → ℕ → ℕ → Type 0
SlotAfter q x y = ((x ≡ q) × (y ≡ 0)) ⊎ ((x ≢ q) × (y ≡ x + 1))

pub slot_after_is : (q x : ℕ) → SlotAfter q x (slot_after q x)
unfolding slot_after
slot_after_is q x = pick_case (λ (y : ℕ). SlotAfter q x y) (λ e. inl (eqb-true _ _ e, refl)) (λ e. inr (eqb-false _ _ e, refl))

pub slot_after_apart : (q x : ℕ) → 1 ≤ q → slot_after q x ≢ x
slot_after_apart q x l = go (slot_after q x) (slot_after_is q x)
  where
    go : (y : ℕ) → SlotAfter q x y → y ≢ x
    go y (inl f) = omega arith
    go y (inr f) = omega arith

pub slot_after_le : (q x : ℕ) → x ≤ q → slot_after q x ≤ q
slot_after_le q x l = go (slot_after q x) (slot_after_is q x)
  where
    go : (y : ℕ) → SlotAfter q x y → y ≤ q
    go y (inl a) = omega arith
    go y (inr a) = omega arith

-- y is the slot n places after x
abbrev pub Forward : ℕ → ℕ → ℕ → ℕ → Type 0
Forward q x n y = ((x + n ≤ q) × (y ≡ x + n)) ⊎ ((q < x + n) × (y + (q + 1) ≡ x + n))

pub forward_is : (q x n : ℕ) → x ≤ q → n ≤ q → Forward q x n (forward q x n)
unfolding forward
forward_is q x zero l m = inl (omega arith, omega arith)
forward_is q x (suc n) l m = go (slot_after q x) (forward q (slot_after q x) n) (slot_after_is q x) (forward_is q (slot_after q x) n (slot_after_le q x l) (omega arith))
  where
    go : (a y : ℕ) → SlotAfter q x a → Forward q a n y → Forward q x (suc n) y
    go a y (inl s) (inl f) = inr (omega arith, omega arith)
    go a y (inl s) (inr f) = absurd (omega arith)
    go a y (inr s) (inl f) = inl (omega arith, omega arith)
    go a y (inr s) (inr f) = inr (omega arith, omega arith)

pub forward_le : (q x n : ℕ) → x ≤ q → n ≤ q → forward q x n ≤ q
forward_le q x n l m = go (forward q x n) (forward_is q x n l m)
  where
    go : (y : ℕ) → Forward q x n y → y ≤ q
    go y (inl f) = omega arith
    go y (inr f) = omega arith

-- n slots lie from h up to t
abbrev pub Distance : ℕ → ℕ → ℕ → ℕ → Type 0
Distance q h t n = ((h ≤ t) × (n + h ≡ t)) ⊎ ((t < h) × (n + h ≡ t + (q + 1)))

pub distance_is : (q h t : ℕ) → h ≤ q → Distance q h t (distance q h t)
unfolding distance
distance_is q h t l =
    pick_case (λ (n : ℕ). Distance q h t n)
    (λ e. let le : h ≤ t = leb-true _ _ e in inl (le, omega arith))
    (λ e. let lt : t < h = leb-false _ _ e in inr (lt, omega arith))

pub distance_le : (q h t : ℕ) → h ≤ q → t ≤ q → distance q h t ≤ q
distance_le q h t l m = go (distance q h t) (distance_is q h t l)
  where
    go : (n : ℕ) → Distance q h t n → n ≤ q
    go n (inl d) = omega arith
    go n (inr d) = omega arith

-- none exactly where the two are one
pub distance_some : (q h t : ℕ) → h ≤ q → t ≤ q → h ≢ t → 0 < distance q h t
distance_some q h t l m ne = go (distance q h t) (distance_is q h t l)
  where
    go : (n : ℕ) → Distance q h t n → 0 < n
    go n (inl d) = omega arith
    go n (inr d) = omega arith

pub distance_none : (q h : ℕ) → distance q h h ≡ 0
unfolding distance
distance_none q h = let same : h - h ≡ 0 = omega arith in pick_true _ _ (le-leb h h (omega arith)) ∙ same

pub distance_apart : (q h t : ℕ) → h ≤ q → 0 < distance q h t → h ≢ t
distance_apart q h t l p = go (distance q h t) (distance_is q h t l) p
  where
    go : (n : ℕ) → Distance q h t n → 0 < n → h ≢ t
    go n (inl d) p = omega arith
    go n (inr d) p = omega arith

-- a new head: one slot fewer
pub distance-head : (q h t : ℕ) → h ≤ q → t ≤ q → h ≢ t → distance q h t ≡ suc (distance q (slot_after q h) t)
distance-head q h t l m ne =
    go (slot_after q h) (distance q h t) (distance q (slot_after q h) t) (slot_after_is q h) (distance_is q h t l) (distance_is q (slot_after q h) t (slot_after_le q h l))
  where
    go : (a n k : ℕ) → SlotAfter q h a → Distance q h t n → Distance q a t k → n ≡ suc k
    go a n k (inl x) (inl y) (inl z) = omega arith
    go a n k (inl x) (inl y) (inr z) = omega arith
    go a n k (inl x) (inr y) (inl z) = omega arith
    go a n k (inl x) (inr y) (inr z) = omega arith
    go a n k (inr x) (inl y) (inl z) = omega arith
    go a n k (inr x) (inl y) (inr z) = omega arith
    go a n k (inr x) (inr y) (inl z) = omega arith
    go a n k (inr x) (inr y) (inr z) = omega arith

-- as far from h as t is: that is t
pub forward-distance : (q h t : ℕ) → h ≤ q → t ≤ q → forward q h (distance q h t) ≡ t
forward-distance q h t l m =
    go (distance q h t) (forward q h (distance q h t)) (distance_is q h t l) (forward_is q h (distance q h t) l (distance_le q h t l m))
  where
    go : (n y : ℕ) → Distance q h t n → Forward q h n y → y ≡ t
    go n y (inl d) (inl f) = omega arith
    go n y (inl d) (inr f) = omega arith
    go n y (inr d) (inl f) = omega arith
    go n y (inr d) (inr f) = omega arith

-- "full means the slot after tail is head"
pub full_is_no_room : FullIsNoRoom
unfolding room
full_is_no_room v l m = go (slot_after v.queue_records v.tail) (distance v.queue_records v.head v.tail) (slot_after_is _ _) (distance_is _ _ _ l)
  where
    go : (a n : ℕ) → SlotAfter v.queue_records v.tail a → Distance v.queue_records v.head v.tail n
        → (v.queue_records - n ≡ 0 → a ≡ v.head) × (a ≡ v.head → v.queue_records - n ≡ 0)
    go a n (inl s) (inl d) = (λ e. omega arith, λ e. omega arith)
    go a n (inl s) (inr d) = (λ e. omega arith, λ e. omega arith)
    go a n (inr s) (inl d) = (λ e. omega arith, λ e. omega arith)
    go a n (inr s) (inr d) = (λ e. omega arith, λ e. omega arith)

-- ---- with room for i records behind tail

module _ (q h t i : ℕ) (l : h ≤ q) (m : t ≤ q) (room : distance q h t + i ≤ q) where
  -- a tail that is i slots on: so many slots more
  pub distance-forward : distance q h (forward q t i) ≡ distance q h t + i
  distance-forward =
      go (distance q h t) (forward q t i) (distance q h (forward q t i)) (distance_is q h t l) (forward_is q t i m (omega arith))
      (distance_is q h (forward q t i) l) room
    where
      go : (n y k : ℕ) → Distance q h t n → Forward q t i y → Distance q h y k → n + i ≤ q → k ≡ n + i
      go n y k (inl d) (inl f) (inl e) r = omega arith
      go n y k (inl d) (inl f) (inr e) r = omega arith
      go n y k (inl d) (inr f) (inl e) r = omega arith
      go n y k (inl d) (inr f) (inr e) r = omega arith
      go n y k (inr d) (inl f) (inl e) r = omega arith
      go n y k (inr d) (inl f) (inr e) r = omega arith
      go n y k (inr d) (inr f) (inl e) r = omega arith
      go n y k (inr d) (inr f) (inr e) r = omega arith

  -- such a tail isn't head, unless none waits and none came
  pub tail_apart : 0 < distance q h t + i → h ≢ forward q t i
  tail_apart p = distance_apart q h (forward q t i) l (subst (λ (n : ℕ). 0 < n) (sym distance-forward) p)

  -- the slot i places after tail is none of the waiting ones
  pub slot_apart : (j : ℕ) → j < distance q h t → forward q h j ≢ forward q t i
  slot_apart j below =
      go (distance q h t) (forward q h j) (forward q t i) (distance_is q h t l) (forward_is q h j l (omega arith)) (forward_is q t i m (omega arith))
      room below
    where
      go : (n y z : ℕ) → Distance q h t n → Forward q h j y → Forward q t i z → n + i ≤ q → j < n → y ≢ z
      go n y z (inl d) (inl f) (inl g) r b = omega arith
      go n y z (inl d) (inl f) (inr g) r b = omega arith
      go n y z (inl d) (inr f) (inl g) r b = omega arith
      go n y z (inl d) (inr f) (inr g) r b = omega arith
      go n y z (inr d) (inl f) (inl g) r b = omega arith
      go n y z (inr d) (inl f) (inr g) r b = omega arith
      go n y z (inr d) (inr f) (inl g) r b = omega arith
      go n y z (inr d) (inr f) (inr g) r b = omega arith

-- ---- the records

-- from a slot on, and then from where these end
pub records-append : (queue : List ℕ) (q n k h : ℕ) → records_from queue q h (n + k) ≡ records_from queue q h n ++ records_from queue q (forward q h n) k
unfolding records_from forward
records-append queue q zero k h = let e : 0 + k ≡ k = omega arith in ap (records_from queue q h) e
records-append queue q (suc n) k h =
    let e : suc n + k ≡ suc (n + k) = omega arith in
    ap (records_from queue q h) e ∙ ap (λ (rs : List Record). slot queue h ∷ rs) (records-append queue q n k (slot_after q h))

-- a new head takes the first record away
pub records-head : (queue : List ℕ) (q h t : ℕ) → h ≤ q → t ≤ q → h ≢ t
    → records_from queue q h (distance q h t) ≡ slot queue h ∷ records_from queue q (slot_after q h) (distance q (slot_after q h) t)
unfolding records_from
records-head queue q h t l m ne = rw (distance-head q h t l m ne)

-- the same records from another queue
pub records-length : (queue : List ℕ) (q h n : ℕ) → length (records_from queue q h n) ≡ n
unfolding records_from
records-length queue q h zero = refl
records-length queue q h (suc n) = ap suc (records-length queue q (slot_after q h) n)

pub records-same : (queue other : List ℕ) (q n h : ℕ) → ((j : ℕ) → j < n → slot other (forward q h j) ≡ slot queue (forward q h j))
    → records_from other q h n ≡ records_from queue q h n
unfolding records_from forward
records-same queue other q zero h f = refl
records-same queue other q (suc n) h f =
    let rest = records-same queue other q n (slot_after q h) (λ j l. f (suc j) (omega arith)) in
    λ i. f 0 (omega arith) i ∷ rest i

-- every event is below E
pub known-append : (p : List ℕ) (rs ss : List Record) → Known p rs → Known p ss → Known p (rs ++ ss)
known-append p [] ss k l = l
known-append p (r ∷ rs) ss (a, k) l = (a, known-append p rs ss k l)

known_at : (p queue : List ℕ) (q n h j : ℕ) → Known p (records_from queue q h n) → j < n → word queue (2 * forward q h j) < events p
unfolding records_from forward slot
known_at p queue q zero h j k l = absurd (omega arith)
known_at p queue q (suc n) h zero (a, k) l = a
known_at p queue q (suc n) h (suc j) (a, k) l = known_at p queue q n (slot_after q h) j k (omega arith)

-- ---- the slots between head and tail

abbrev pub Between : ℕ → ℕ → ℕ → Type 0
Between h t x = ((h ≤ t) × ((h ≤ x) × (x < t))) ⊎ ((t < h) × ((h ≤ x) ⊎ (x < t)))

pub between_is : (h t x : ℕ) → between h t x ≡ true → Between h t x
unfolding between both either
between_is h t x e = go (leb h t) (leb h x) (ltb x t) refl refl refl e
  where
    go : (a b c : Bool) → leb h t ≡ a → leb h x ≡ b → ltb x t ≡ c → pick a (b and c) (b or c) ≡ true → Between h t x
    go true true true e f g z = inl (leb-true _ _ e, (leb-true _ _ f, ltb-true _ _ g))
    go true true false e f g z = clash z (pick_true _ _ refl)
    go true false c e f g z = clash z (pick_true _ _ refl)
    go false true c e f g z = inr (leb-false _ _ e, inl (leb-true _ _ f))
    go false false true e f g z = inr (leb-false _ _ e, inr (ltb-true _ _ g))
    go false false false e f g z = clash z (pick-false _ _ refl)

pub between_first : (h t : ℕ) → h ≢ t → Between h t h
between_first h t ne = go (leb h t) refl
  where
    go : (a : Bool) → leb h t ≡ a → Between h t h
    go true e = let l : h ≤ t = leb-true _ _ e in inl (l, (omega arith, omega arith))
    go false e = inr (leb-false _ _ e, inl (omega arith))

pub between_self : (h t : ℕ) → h ≢ t → between h t h ≡ true
unfolding between
between_self h t ne =
    let here : leb h h ≡ true = le-leb h h (omega arith) in
    pick_case (λ (b : Bool). b ≡ true)
    (λ e. let l : h ≤ t = leb-true _ _ e in let m : h < t = omega arith in and_true here (lt-ltb _ _ m)) (λ e. or_true_left _ _ here)

-- they are nearer to head than tail is
between_nearer : (q h t x : ℕ) → h ≤ q → x ≤ q → Between h t x → distance q h x < distance q h t
between_nearer q h t x l n b = go (distance q h x) (distance q h t) (distance_is q h x l) (distance_is q h t l) b
  where
    go : (j k : ℕ) → Distance q h x j → Distance q h t k → Between h t x → j < k
    go j k (inl d) (inl e) (inl b) = omega arith
    go j k (inl d) (inl e) (inr (c, b)) = absurd (omega arith)
    go j k (inl d) (inr e) (inl b) = absurd (omega arith)
    go j k (inl d) (inr e) (inr (c, inl b)) = omega arith
    go j k (inl d) (inr e) (inr (c, inr b)) = omega arith
    go j k (inr d) (inl e) (inl b) = absurd (omega arith)
    go j k (inr d) (inl e) (inr (c, b)) = absurd (omega arith)
    go j k (inr d) (inr e) (inl b) = absurd (omega arith)
    go j k (inr d) (inr e) (inr (c, inl b)) = absurd (omega arith)
    go j k (inr d) (inr e) (inr (c, inr b)) = omega arith

-- the event of a waiting slot is below E
pub known-between : (p queue : List ℕ) (q h t x : ℕ) → h ≤ q → t ≤ q → x ≤ q → Known p (records_from queue q h (distance q h t)) → Between h t x
    → word queue (2 * x) < events p
known-between p queue q h t x l m n k b =
    subst (λ (y : ℕ). word queue (2 * y) < events p) (forward-distance q h x l n)
    (known_at p queue q (distance q h t) h (distance q h x) k (between_nearer q h t x l n b))

-- ---- the stores of records, from slot t on (`record_stores`)

-- what a write stores to the queue stands there
abbrev pub InQueue : List ℕ → Write → Type 0
InQueue queue none = ⊥
InQueue queue (to Phase x) = ⊥
InQueue queue (to Task x) = ⊥
InQueue queue (to Open x) = ⊥
InQueue queue (to Count x) = ⊥
InQueue queue (to Pending x) = ⊥
InQueue queue (to PendingOpen x) = ⊥
InQueue queue (to Head x) = ⊥
InQueue queue (to Tail x) = ⊥
InQueue queue (to Begun x) = ⊥
InQueue queue (to (Memory a) x) = ⊥
InQueue queue (to (Address j) x) = ⊥
InQueue queue (to (Value j) x) = ⊥
InQueue queue (to (Event i) x) = word queue (2 * i) ≡ x
InQueue queue (to (Datum i) x) = word queue (2 * i + 1) ≡ x

-- the first c of them are made
abbrev pub RecordsMade : List ℕ → ℕ → ℕ → List Record → ℕ → Type 0
RecordsMade queue q t rs c = First (InQueue queue) c (record_stores q t rs)

pub data Member (r : Record) : List Record → Type 0 where
  here : {rs : List Record} → Member r (r ∷ rs)
  there : {s : Record} {rs : List Record} → Member r rs → Member r (s ∷ rs)

-- one of them before the last: the event or the data of a record, in its slot
pub data RecordStore (q t : ℕ) (rs : List Record) : Write → Type 0 where
  event_store : (i : ℕ) (r : Record) → i < length rs → Member r rs → RecordStore q t rs (to (Event (forward q t i)) r.event)
  datum_store : (i : ℕ) (r : Record) → i < length rs → Member r rs → RecordStore q t rs (to (Datum (forward q t i)) r.datum)

-- such a slot is there
pub slot_in : {q t k : ℕ} (h i : ℕ) → t ≤ q → k ≤ q - distance q h t → i < k → forward q t i ≤ q
slot_in {q = q} {t = t} h i l room below = forward_le q t i l (omega arith)

later_store : (q t : ℕ) (s : Record) (rs : List Record) (w : Write) → RecordStore q (slot_after q t) rs w → RecordStore q t (s ∷ rs) w
unfolding forward
later_store q t s rs w (event_store i r l m) = event_store (suc i) r (omega arith) (there m)
later_store q t s rs w (datum_store i r l m) = datum_store (suc i) r (omega arith) (there m)

pub record_store : (q : ℕ) (rs : List Record) (t c : ℕ) → c < 2 * length rs → RecordStore q t rs (get_or (record_stores q t rs) c none)
unfolding record_stores forward
record_store q [] t c l = absurd (omega arith)
record_store q (r ∷ rs) t zero l = event_store 0 r (omega arith) here
record_store q (r ∷ rs) t (suc zero) l = datum_store 0 r (omega arith) here
record_store q (r ∷ rs) t (suc (suc c)) l = later_store q t r rs _ (record_store q rs (slot_after q t) c (omega arith))

-- and the last
pub tail-store : (q : ℕ) (rs : List Record) (t c : ℕ) → c ≡ 2 * length rs → get_or (record_stores q t rs) c none ≡ to Tail (forward q t (length rs))
unfolding record_stores forward
tail-store q [] t zero e = refl
tail-store q [] t (suc c) e = absurd (omega arith)
tail-store q (r ∷ rs) t zero e = absurd (omega arith)
tail-store q (r ∷ rs) t (suc zero) e = absurd (omega arith)
tail-store q (r ∷ rs) t (suc (suc c)) e = tail-store q rs (slot_after q t) c (omega arith)

-- how many they are
pub record_stores_lem : (q : ℕ) (rs : List Record) (t : ℕ) → length (record_stores q t rs) ≡ 2 * length rs + 1
unfolding record_stores
record_stores_lem q [] t = refl
record_stores_lem q (r ∷ rs) t = let e = record_stores_lem q rs (slot_after q t) in omega arith

-- once all but the last are made, the records stand there
pub records-made : (queue : List ℕ) (q : ℕ) (rs : List Record) (t c : ℕ) → c ≡ 2 * length rs → RecordsMade queue q t rs c
    → records_from queue q t (length rs) ≡ rs
unfolding record_stores records_from slot
records-made queue q [] t c e f = refl
records-made queue q (r ∷ rs) t zero e f = absurd (omega arith)
records-made queue q (r ∷ rs) t (suc zero) e f = absurd (omega arith)
records-made queue q (r ∷ rs) t (suc (suc c)) e (a, (b, f)) =
    let rest = records-made queue q rs (slot_after q t) c (omega arith) f in
    λ i. record { event = a i; datum = b i } ∷ rest i

-- ---- the queue after one of them

unfoldable pub queue_after : List ℕ → Write → List ℕ
queue_after queue none = queue
queue_after queue (to Phase x) = queue
queue_after queue (to Task x) = queue
queue_after queue (to Open x) = queue
queue_after queue (to Count x) = queue
queue_after queue (to Pending x) = queue
queue_after queue (to PendingOpen x) = queue
queue_after queue (to Head x) = queue
queue_after queue (to Tail x) = queue
queue_after queue (to Begun x) = queue
queue_after queue (to (Memory a) x) = queue
queue_after queue (to (Address j) x) = queue
queue_after queue (to (Value j) x) = queue
queue_after queue (to (Event i) x) = set queue (2 * i) x
queue_after queue (to (Datum i) x) = set queue (2 * i + 1) x

-- another slot stays
pub slot_stays : (queue : List ℕ) (q t : ℕ) (rs : List Record) (w : Write) → RecordStore q t rs w → (x : ℕ)
    → ((i : ℕ) → i < length rs → x ≢ forward q t i) → slot (queue_after queue w) x ≡ slot queue x
unfolding queue_after slot
slot_stays queue q t rs w (event_store i r l m) x f =
    let ne = f i l in
    λ k. record {
      event = get_or-set_other queue (2 * forward q t i) (2 * x) r.event 0 (omega arith) k;
      datum = get_or-set_other queue (2 * forward q t i) (2 * x + 1) r.event 0 (omega arith) k;
    }
slot_stays queue q t rs w (datum_store i r l m) x f =
    let ne = f i l in
    λ k. record {
      event = get_or-set_other queue (2 * forward q t i + 1) (2 * x) r.datum 0 (omega arith) k;
      datum = get_or-set_other queue (2 * forward q t i + 1) (2 * x + 1) r.datum 0 (omega arith) k;
    }

-- a slot isn't met again before q slots
forward_apart : (q t i : ℕ) → t ≤ q → suc i ≤ q → t ≢ forward q (slot_after q t) i
unfolding forward
forward_apart q t i l m = go (forward q t (suc i)) (forward_is q t (suc i) l m)
  where
    go : (y : ℕ) → Forward q t (suc i) y → t ≢ y
    go y (inl f) = omega arith
    go y (inr f) = omega arith

-- the next of them is made, and those before it stay
pub next-made : (queue : List ℕ) (q : ℕ) → length queue ≡ 2 * (q + 1) → (rs : List Record) (t c : ℕ) → t ≤ q → length rs ≤ q → c < 2 * length rs
    → RecordsMade queue q t rs c → RecordsMade (queue_after queue (get_or (record_stores q t rs) c none)) q t rs (suc c)
unfolding record_stores queue_after slot
next-made queue q n [] t c l m b f = absurd (omega arith)
next-made queue q n (r ∷ rs) t zero l m b f = (get_or-set_same queue (2 * t) r.event 0 (omega arith), tt)
next-made queue q n (r ∷ rs) t (suc zero) l m b (a, f) = (
  get_or-set_other queue (2 * t + 1) (2 * t) r.datum 0 (omega arith) ∙ a,
  (get_or-set_same queue (2 * t + 1) r.datum 0 (omega arith), tt),
)
next-made queue q n (r ∷ rs) t (suc (suc c)) l m b (a, (d, f)) =
    let w = get_or (record_stores q (slot_after q t) rs) c none in
    let same = slot_stays queue q (slot_after q t) rs w (record_store q rs (slot_after q t) c (omega arith)) t (λ i k. forward_apart q t i l (omega arith)) in
    (ap (λ (s : Record). s.event) same ∙ a, (ap (λ (s : Record). s.datum) same ∙ d, next-made queue q n rs (slot_after q t) c (slot_after_le q t l) (omega arith) (omega arith) f))

-- ---- the stores by their number: a burst's word c goes to the ring's word c places after the first of tail's slot

pub word-store : (ws : List ℕ) (q n i u c : ℕ) → c < 2 * n → get_or (record_stores q u (records_at ws i n)) c none ≡ to (ring_word q u c) (word ws (2 * i + c))
unfolding record_stores records_at slot ring_word
word-store ws q zero i u c l = absurd (omega arith)
word-store ws q (suc n) i u zero l =
    let there : 2 * i ≡ 2 * i + 0 = omega arith in
    ap (λ (k : ℕ). to (Event u) (word ws k)) there
word-store ws q (suc n) i u (suc zero) l = refl
word-store ws q (suc n) i u (suc (suc c)) l =
    let there : 2 * suc i + c ≡ 2 * i + suc (suc c) = omega arith in
    word-store ws q n (suc i) (slot_after q u) c (omega arith) ∙ ap (λ (k : ℕ). to (ring_word q (slot_after q u) c) (word ws k)) there

-- which word of the queue that is
abbrev pub Around : ℕ → ℕ → ℕ → ℕ → Type 0
Around q u c k = ((2 * u + c < 2 * (q + 1)) × (k ≡ 2 * u + c)) ⊎ ((2 * (q + 1) ≤ 2 * u + c) × (k ≡ 2 * u + c - 2 * (q + 1)))

pub ring_index : (s : List ℕ) (q u c : ℕ) → u ≤ q → c ≤ 2 * q + 1
    → (k : ℕ) × Around q u c k × (index s (ring_word q u c) ≡ queue_at (word s 1) (word s 2) + k)
unfolding ring_word index
ring_index s q u zero l m = (2 * u, inl (omega arith, omega arith), refl)
ring_index s q u (suc zero) l m = (2 * u + 1, inl (omega arith, omega arith), refl)
ring_index s q u (suc (suc c)) l m =
    let (k, around, is) = ring_index s q (slot_after q u) c (slot_after_le q u l) (omega arith) in
    (k, go (slot_after q u) k (slot_after_is q u) around, is)
  where
    go : (y k : ℕ) → SlotAfter q u y → Around q y c k → Around q u (suc (suc c)) k
    go y k (inl (e, f)) (inl a) = inr (omega arith, omega arith)
    go y k (inl (e, f)) (inr a) = absurd (omega arith)
    go y k (inr (e, f)) (inl a) = inl (omega arith, omega arith)
    go y k (inr (e, f)) (inr a) = inr (omega arith, omega arith)
