-- Boot, step, post and cut keep the invariant, over the parts of a store. Assumes nothing.
use Prim.Native.Nat.{ℕ, zero, suc, ◌+◌, ◌-◌, ◌≤◌, ◌<◌, min}
use mathlib.Core.Path.{◌≡◌, refl, sym, ap, subst, ◌∙◌}
use mathlib.Core.Logic.{◌⊎◌, inl, inr, ◌≢◌}
use mathlib.Core.Bool.{Bool, true, false}
use mathlib.Core.List.{List}
use native.Mathlib.Omega.{arith}
use borrow.Author.Tests.{eqb-true, eq-eqb, ne_eqb, leb-true}
use lib.Dec.{eqb}
use lib.ListN.{length}
use Rattle.model.proofs.BurstLaws.{carried_back, may_drop_is}
use Rattle.model.proofs.Checks.{body-sound, run_fits, half_fits}
use Rattle.model.proofs.Invariant.{Lengths, HeldAt, CopyingAt, TaskCommitAt, EventCommitAt, Placed, Resumes, On, Inv, HandlesAt, is_dropping, after_tail}
use Rattle.model.proofs.Kept.{Kept, begun_nothing, begun-committing, begun-task, begun_event, chosen-begins, placed_queue, handler-kept, copies_left, commit-kept, first_head, room-first}
use Rattle.model.proofs.KeptBody.{begins, task_in, event_in, choose_kept, act-kept, rest-kept}
use Rattle.model.proofs.KeptDrop.{drop-kept}
use Rattle.model.proofs.LogLaws.{overlay, overlay_zero, overlay_again}
use Rattle.model.proofs.RingLaws.{record_stores_lem, records-length, full_is_no_room, RecordStore, queue_after, slot_after_apart, slot_stays, distance_le}
use Rattle.model.proofs.StoreLaws.{apply}
use Rattle.model.proofs.TestLaws.{pick_true, pick-false, or_right, and_left, and_right}
use Rattle.model.specs.Accepted.{Sound, Known, MayDrop}
use Rattle.model.specs.Burst.{burst_words, records_at, carried}
use Rattle.model.specs.Calls.{Boot, Step, Cut, Post}
use Rattle.model.specs.Device.{out, judged, fresh, off, turned_on, with_handler, task_last_stores, event_last_stores, kind_of, begun_of, data_for, started, taken_up, place_step, next_step, takes, dropped_record, set_to_work, fits}
use Rattle.model.specs.Program.{body_number, effect_at}
use Rattle.model.specs.Serial.{Serial, tell, after_done, after_post, unchanged, PostState, with_records, no_post}
use Rattle.model.specs.Store.{Store, event, datum, none, room, distance, slot, forward, first_waiting, Write, slot_after}
use Rattle.model.specs.Test.{pick}
use Rattle.model.specs.Turns.{begun_after}
use Rattle.model.specs.Types.{Answer, Body, Device, Dropping, Free, Half, Handler, None, Option, Place, Record, Replacing, Resting, Run, Some, Storing}

-- ---- a step, past its early checks

module _ (p : List ℕ) (sound : Sound p) (v : Store) (lengths : Lengths p v) (d : Device) (z : Serial) (k : ℕ)
    (i : On p v d z k) where
  place_kept : d.handler ≡ Resting → (x : Place) → Placed p v d z k x → Kept p v z k Step (place_step p v d x)
  unfolding place_step judged
  place_kept rest (Free c) (inl (s, (e, g))) =
      rw (pick_true {b = eqb v.phase 0} _ _ (ap (λ (n : ℕ). eqb n 0) s.phase_is)) (choose_kept p sound v d z k i rest s g)
  place_kept rest (Free c) (inr (m, inl t)) =
      rw (pick-false {b = eqb v.phase 0} _ _ (ap (λ (n : ℕ). eqb n 0) t.phase_is)) (commit-kept p v d rest z k i c m (inl t))
  place_kept rest (Free c) (inr (m, inr t)) =
      rw (pick-false {b = eqb v.phase 0} _ _ (ap (λ (n : ℕ). eqb n 0) t.phase_is)) (commit-kept p v d rest z k i c m (inr t))
  place_kept rest (Run b j c) ((s, (x, m, r)), e) =
      let f = effect_at p (body_number p b) j d.registers in
      rw (body-sound p v d z k i sound (Run b j c) b j (s, (x, m, r)) (run_fits p v d z k i b j c f e))
      (act-kept p sound v lengths d z k i rest s b j x m r c f refl (sound.legal (body_number p b) j d.registers r.body_in r.place_in) e)
  place_kept rest (Half b j) ((s, (x, m, r)), e) =
      let f = effect_at p (body_number p b) j d.registers in
      rw (body-sound p v d z k i sound (Half b j) b j (s, (x, m, r)) (half_fits p v d z k i b j d.count f e))
      (rest-kept p sound v lengths d z k i rest s b j x m r f refl (sound.legal (body_number p b) j d.registers r.body_in r.place_in) e)

  -- what was dropped stands in the slot after tail, and the stores of a burst of one go to tail's slot
  dropped_stays : (rs : List Record) → length rs ≡ 1 → distance v.queue_records v.head v.tail + length rs ≤ v.queue_records → (w : Write)
      → RecordStore v.queue_records v.tail rs w
      → after_tail (queue_after v.queue w) v.queue_records v.tail ≡ after_tail v.queue v.queue_records v.tail
  unfolding slot forward
  dropped_stays rs one room w s =
      let same = slot_stays v.queue v.queue_records v.tail rs w s (slot_after v.queue_records v.tail) apart in
      ap Some same
    where
      apart : (n : ℕ) → n < length rs → slot_after v.queue_records v.tail ≢ forward v.queue_records v.tail n
      apart zero l = slot_after_apart v.queue_records v.tail (omega arith)
      apart (suc n) l = absurd (omega arith)

  pub next-kept : (h : Handler) → d.handler ≡ h → HandlesAt p v z d.burst h → Kept p v z k Step (next_step p v d h)
  unfolding next_step dropped_record records_at
  next-kept Resting e w = place_kept e d.place i.placed
  next-kept (Storing n c) e w =
      handler-kept p v lengths d z k i n c (Storing n (c + 1)) (λ _. None) w (ap is_dropping e) refl (λ queue a. a) (λ _ _. refl)
  next-kept Dropping e (m, ne, posted_is) = drop-kept p sound v d z k i m ne posted_is (i.marked ∙ ap is_dropping e)
  next-kept (Replacing c) e w =
      handler-kept p v lengths d z k i 1 c (Replacing (c + 1)) (λ queue. after_tail queue v.queue_records v.tail) w (ap is_dropping e) refl (λ queue a. a)
      (dropped_stays (carried d.burst 1) refl w.room)

-- ---- the device off, and turned on

-- of any device: what holds of the store, and what a boot finds
pub held_of : {p : List ℕ} {v : Store} {d : Device} {z : Serial} {k : ℕ} → Inv p v d z k → HeldAt p v z
held_of (inl o) = o.held
held_of (inr i) = i.held

module _ (p : List ℕ) (v : Store) (d : Device) (z : Serial) (k : ℕ) where
  -- a commit is begun again at its first pair
  copying_again : (c : ℕ) → CopyingAt p v z c → CopyingAt p v z 0
  copying_again c m =
      let n = v.count in
      let none_copied : min 0 n ≡ 0 = omega arith in
      let some_copied : min c n ≤ n = omega arith in
      record {
        count_in = m.count_in;
        addresses = m.addresses;
        base = v.memory;
        copied = sym (ap (overlay v.memory v.log) none_copied ∙ overlay_zero v.memory v.log);
        whole = ap (λ (s : List ℕ). overlay s v.log n) m.copied ∙ overlay_again m.base v.log (min c n) n some_copied ∙ m.whole;
      }

  commit_again : (c : ℕ) → TaskCommitAt p v z c ⊎ EventCommitAt v z c → TaskCommitAt p v z 0 ⊎ EventCommitAt v z 0
  unfolding task_last_stores event_last_stores
  commit_again c (inl t) =
      inl
      (record {
        phase_is = t.phase_is;
        task_in = t.task_in;
        pending_is = t.pending_is;
        pending_open_is = t.pending_open_is;
        lasting = copies_left (omega arith) (omega arith);
      })
  commit_again c (inr t) =
      inr
      (record {
        phase_is = t.phase_is;
        task_is = t.task_is;
        open_is = t.open_is;
        open_none = t.open_none;
        pending_is = t.pending_is;
        lasting = copies_left (omega arith) (omega arith);
      })

  resumes_from : (x : Place) → Placed p v d z k x → Resumes p v z
  resumes_from (Free c) (inl (s, (e, g))) = inl (s, inl g)
  resumes_from (Free c) (inr (m, t)) = inr (copying_again c m, commit_again c t)
  resumes_from (Run b j c) ((s, (x, m, r)), e) = inl (s, chosen-begins v b x m)
  resumes_from (Half b j) ((s, (x, m, r)), e) = inl (s, chosen-begins v b x m)

  pub resumes_of : Inv p v d z k → Resumes p v z
  resumes_of (inl o) = o.resumes
  resumes_of (inr i) = resumes_from d.place i.placed

  pub off_inv : Inv p v d z k → Inv p v off (unchanged z) (suc k)
  unfolding unchanged with_records no_post
  off_inv i = inl (record { held = held_of i; resumes = resumes_of i; is_off = refl; unmarked = refl })

  -- a boot takes up the begun body; where none is begun, and in phases 1 and 2, the device is the off value turned on
  idle : HeldAt p v z → z.posting.found_full ≡ false → Placed p v turned_on z (suc k) (Free 0) → On p v turned_on z (suc k)
  unfolding fresh
  idle held unmarked placed = record { held = held; on = refl; handles = refl; marked = unmarked; count_in = omega arith; placed = placed }

  abbrev Boots : Option Body → Type 0
  Boots g = On p v (taken_up v g) z (suc k)

  pub on_inv : Sound p → HeldAt p v z → z.posting.found_full ≡ false → Resumes p v z → Boots (begun_of v)
  unfolding taken_up started data_for kind_of fresh
  on_inv sound held unmarked (inl (s, inl g)) = subst Boots (sym (begun_nothing v g)) (idle held unmarked (inl (s, (refl, g))))
  on_inv sound held unmarked (inl (s, inr (inl g))) =
      subst Boots (sym (begun-task v s.phase_is g))
      (begins p sound v turned_on z k held s refl refl unmarked (Body.Task v.task) 0 ((refl, refl), g) (task_in p sound v turned_on z k held s))
  on_inv sound held unmarked (inl (s, inr (inr (g, (open', ne))))) =
      subst Boots (sym (begun_event v s.phase_is g))
      (begins p sound v turned_on z k held s refl refl unmarked (Body.Event (event v v.head)) (datum v v.head) ((open', (ne, (refl, refl))), g)
      (event_in p sound v turned_on z k held s ne))
  on_inv sound held unmarked (inr (m, inl t)) = subst Boots (sym (begun-committing v 1 t.phase_is refl)) (idle held unmarked (inr (m, inl t)))
  on_inv sound held unmarked (inr (m, inr t)) = subst Boots (sym (begun-committing v 2 t.phase_is refl)) (idle held unmarked (inr (m, inr t)))

  pub turned_off_kept : Inv p v d z k → Kept p v z k Cut (out none off Answer.Done)
  unfolding tell apply after_done begun_after
  turned_off_kept i = record { inside = tt; serial = unchanged z; tells = λ fuel l. refl; expected = tt; turn = tt; told = tt; begins = refl; inv = off_inv i }

  pub posts_nothing : (unchanged z).posting.found_full ≡ false
  unfolding unchanged with_records no_post
  posts_nothing = refl

  -- what holds of the store and what a boot finds don't look at posts
  pub held_still : HeldAt p v z → HeldAt p v (unchanged z)
  unfolding unchanged with_records
  held_still held = held

  pub resumes_still : Resumes p v z → Resumes p v (unchanged z)
  unfolding unchanged with_records
  resumes_still r = r

-- ---- a boot, and a post that is answered done

module _ (p : List ℕ) (v : Store) (d : Device) (z : Serial) (k : ℕ) where
  pub turned_on_kept : Sound p → Inv p v d z k → Kept p v z k Boot (out none (taken_up v (begun_of v)) Answer.Done)
  unfolding tell apply after_done begun_after
  turned_on_kept sound i =
      record {
        inside = tt;
        serial = unchanged z;
        tells = λ fuel l. refl;
        expected = tt;
        turn = tt;
        told = tt;
        begins = refl;
        inv =
            inr
            (on_inv p v d (unchanged z) k sound (held_still p v d z k (held_of i)) (posts_nothing p v d z k) (resumes_still p v d z k (resumes_of p v d z k i)));
      }

  -- the handler that it sets to work, on these records
  abbrev posting_of_lem : List Record → PostState
  posting_of_lem rs = (after_post v.queue_records z rs).posting

  set_to_work_lem : (rs : List Record) (h : Handler) → On p v d z k → HandlesAt p v (after_post v.queue_records z rs) (burst_words rs) h
      → (posting_of_lem rs).found_full ≡ is_dropping h → Kept p v z k (Post rs) (out none (with_handler d h (burst_words rs)) Answer.Done)
  unfolding tell apply after_done after_post begun_after with_handler with_records
  set_to_work_lem rs h i handles marked =
      record {
        inside = tt;
        serial = after_post v.queue_records z rs;
        tells = λ fuel l. refl;
        expected = tt;
        turn = tt;
        told = tt;
        begins = refl;
        inv =
            inr
            (record {
              held = i.held;
              on = i.on;
              handles = handles;
              marked = marked;
              count_in = i.count_in;
              placed = placed_queue p v d z k v.queue v.tail h (burst_words rs) z.records (posting_of_lem rs) (λ b y m. m) (λ ne. ne) d.place i.placed;
            });
      }

  abbrev waiting_from : ℕ
  waiting_from = distance v.queue_records (first_waiting v) v.tail

  as_many : On p v d z k → length z.records ≡ waiting_from
  as_many i = ap length (sym i.held.waits.same) ∙ records-length v.queue v.queue_records (first_waiting v) waiting_from

  fits_kept : On p v d z k → (rs : List Record) → 1 ≤ length rs → length rs ≤ 4 → Known p rs → length rs ≤ room v
      → Kept p v z k (Post rs) (out none (with_handler d (Storing (length rs) 0) (burst_words rs)) Answer.Done)
  unfolding room after_post with_records
  fits_kept i rs least most known fits =
      let space : distance v.queue_records v.head v.tail + length rs ≤ v.queue_records = omega (arith, fits, least) in
      set_to_work_lem rs (Storing (length rs) 0) i
      (rw (carried_back rs most)
      (record {
        least = least;
        most = most;
        known = known;
        room = space;
        posted_is = refl;
        dropped_is = refl;
        inside = omega (arith, record_stores_lem v.queue_records rs v.tail);
        made = tt;
      })) (ne_eqb (length z.records) v.queue_records (omega (arith, as_many i, room-first p v d z k i (length rs) space, least)))

  drops-kept : On p v d z k → (rs : List Record) → length rs ≡ 1 → 1 ≤ v.queue_records → MayDrop p v.queue_records v.phase v.head v.tail v.begun rs
      → Kept p v z k (Post rs) (out none (with_handler d Dropping (burst_words rs)) Answer.Done)
  unfolding room after_post with_records
  drops-kept i rs one some_slot m =
      let q = v.queue_records in
      let same : carried (burst_words rs) 1 ≡ rs = rw one at (carried_back rs (omega arith)) in
      let none_left : q - distance q v.head v.tail ≡ 0 = (full_is_no_room v i.held.head_in i.held.waits.tail_in).1 m.full in
      let first = first_head v v.phase refl (ne_eqb _ _ m.not_committing) in
      let some_record : v.head ≢ v.tail = λ e. slot_after_apart q v.tail some_slot (m.full ∙ e) in
      let most = distance_le q v.head v.tail i.held.head_in i.held.waits.tail_in in
      set_to_work_lem rs Dropping i (rw same (m, some_record, refl))
      (eq-eqb _ _ (as_many i ∙ ap (λ (f : ℕ). distance q f v.tail) first ∙ omega (arith, none_left, most)))

  pub posted-kept : On p v d z k → (rs : List Record) → 1 ≤ length rs → length rs ≤ 4 → Known p rs → 1 ≤ v.queue_records
      → takes v (length rs) ≡ true → Kept p v z k (Post rs) (out none (with_handler d (set_to_work v (length rs)) (burst_words rs)) Answer.Done)
  unfolding takes set_to_work fits
  posted-kept i rs least most known some_slot e = by_room (fits v (length rs)) refl
    where
      by_room : (b : Bool) → fits v (length rs) ≡ b
          → Kept p v z k (Post rs) (out none (with_handler d (pick (fits v (length rs)) (Storing (length rs) 0) Dropping) (burst_words rs)) Answer.Done)
      by_room true f = rw (pick_true (Storing (length rs) 0) Dropping f) (fits_kept i rs least most known (leb-true _ _ f))
      by_room false f =
          let g = or_right _ _ f e in
          rw (pick-false (Storing (length rs) 0) Dropping f)
          (drops-kept i rs (eqb-true _ _ (and_left _ _ g)) some_slot (may_drop_is p v rs known (and_right _ _ g)))
