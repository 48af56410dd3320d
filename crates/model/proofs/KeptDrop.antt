-- A handler about to drop stores head: the invariant is kept, and the serial run drops its oldest record. Assumes nothing.
use Prim.Native.Nat.{ℕ, suc, ◌<◌}
use mathlib.Core.Path.{◌≡◌, refl, sym, ap, subst, ◌∙◌}
use mathlib.Core.Logic.{inl, inr, ◌≢◌}
use mathlib.Core.Bool.{true}
use mathlib.Core.List.{List, ◌∷◌}
use native.Mathlib.Omega.{arith}
use borrow.Author.Tests.{lt-ltb, ne_eqb}
use lib.Dec.{eqb}
use Rattle.model.proofs.FirstStores.{first_as}
use Rattle.model.proofs.Invariant.{controls, Lasting, Ending, Waiting, AtWork, dropped_at, On, Placed}
use Rattle.model.proofs.Kept.{Kept, known-waiting, first_head, running_later}
use Rattle.model.proofs.RingLaws.{slot_after_le, distance_le, distance-head, records-head, between_first}
use Rattle.model.proofs.StoreLaws.{apply}
use Rattle.model.proofs.TestLaws.{pick_true, pick-false, must-true}
use Rattle.model.specs.Accepted.{Sound, LegalEffect, Known, MayDrop}
use Rattle.model.specs.Burst.{carried, records_at}
use Rattle.model.specs.Calls.{Step}
use Rattle.model.specs.Device.{judged, with_handler, record_stores, task_stores, event_stores, task_last_stores, kind_of, begun_of, record_sound, drop_step}
use Rattle.model.specs.Program.{tasks, body_number, effect_at}
use Rattle.model.specs.Serial.{Serial, with_records, after_drop, drop_oldest, after_stored, tell}
use Rattle.model.specs.Store.{Store, Head, to, slot_after, slot, records_from, distance, first_waiting}
use Rattle.model.specs.Test.{pick}
use Rattle.model.specs.Turns.{begun_after}
use Rattle.model.specs.Types.{Body, Device, Effect, Free, Half, None, Ok, Option, Place, Record, Replacing, Run, Some}

module _ (p : List ℕ) (sound : Sound p) (v : Store) (d : Device) (z : Serial) (k : ℕ) (i : On p v d z k)
    (m : MayDrop p v.queue_records v.phase v.head v.tail v.begun (carried d.burst 1)) (some_record : v.head ≢ v.tail)
    (posted_is : z.posting.posted ≡ carried d.burst 1) (marked : z.posting.found_full ≡ true) where
  abbrev q : ℕ
  q = v.queue_records

  abbrev next : ℕ
  next = slot_after q v.head

  abbrev stored : Store
  stored = apply v (to Head next)

  -- ---- the serial run drops the record at head

  from_head : Waiting p v.queue q v.head v.tail z.records
  from_head = rw (first_head v v.phase refl (ne_eqb _ _ m.not_committing)) at i.held.waits

  abbrev oldest : Record
  oldest = slot v.queue v.head

  abbrev rest : List Record
  rest = records_from v.queue q next (distance q next v.tail)

  records_are : z.records ≡ oldest ∷ rest
  records_are = sym from_head.same ∙ records-head v.queue q v.head v.tail i.held.head_in from_head.tail_in some_record

  abbrev fewer : Serial
  fewer = after_drop z oldest rest

  drops : after_stored z ≡ Some fewer
  unfolding after_stored drop_oldest
  drops = pick_true _ _ marked ∙ ap (drop_oldest z) records_are

  -- ---- what the head store leaves

  begun_stays : begun_of stored ≡ begun_of v
  unfolding begun_of apply
  begun_stays =
      let e = ne_eqb v.begun 2 m.event_not_begun in
      ap (λ (b : Option Body). pick (eqb v.phase 0) (pick (eqb v.begun 1) (Some (Body.Task v.task)) b) None)
      (pick-false _ _ e ∙ sym (pick-false _ _ e))

  lasting_stays : (c : ℕ) → Lasting (controls v) (task_last_stores v) c → Lasting (controls stored) (task_last_stores stored) c
  unfolding apply task_last_stores
  lasting_stays c l =
      record {
        last = l.last;
        last_is = l.last_is;
        inside = l.inside;
        made = first_as _ _ (task_last_stores v) (λ e. e, (λ e. e, (λ e. e, (λ e. e, tt)))) l.last l.made;
      }

  -- of a running task
  ending_stays : (n j c : ℕ) → n < tasks p → (f : Effect) → LegalEffect p n j f
      → Ending (controls v) (λ a. task_stores p n a d.count) (event_stores v d.count) c f
      → Ending (controls stored) (λ a. task_stores p n a d.count) (event_stores stored d.count) c f
  unfolding apply task_stores
  ending_stays n j c below (Effect.Compute a x) leads e = e
  ending_stays n j c below (Effect.Jump a) leads e = e
  ending_stays n j c below (Effect.Load a x) leads e = e
  ending_stays n j c below (Effect.Save x y) leads e = e
  ending_stays n j c below (Effect.EndTask a) leads (l, made) =
      (l, first_as _ _ (task_stores p n a d.count) (λ e. e, (λ e. e, (λ e. e, (λ e. e, tt)))) c made)
  ending_stays n j c below Effect.EndEvent leads e = absurd (omega (arith, leads))
  ending_stays n j c below Effect.Unknown leads e = absurd leads

  placed_stays : (x : Place) → Placed p v d z k x → Placed p stored (with_handler d (Replacing 0) d.burst) fewer (suc k) x
  unfolding apply with_handler after_drop with_records body_number kind_of
  placed_stays (Free c) (inl s) = inl s
  placed_stays (Free c) (inr (copies, inl t)) =
      inr (
        copies,
        inl
            (record {
              phase_is = t.phase_is;
              task_in = t.task_in;
              pending_is = t.pending_is;
              pending_open_is = t.pending_open_is;
              lasting = lasting_stays c t.lasting;
            }),
      )
  placed_stays (Free c) (inr (copies, inr t)) = absurd (m.not_committing t.phase_is)
  placed_stays (Run (Body.Task n) j c) ((s, (x, chosen, r)), e) = (
    (s, (x, chosen, running_later r)),
    ending_stays n j c (omega (arith, chosen.0.0, s.task_is, i.held.tasked.task_in)) (effect_at p n j d.registers)
        (sound.legal n j d.registers r.body_in r.place_in) e,
  )
  placed_stays (Run (Body.Event n) j c) ((s, (x, chosen, r)), e) = absurd (m.event_not_begun chosen.1)
  placed_stays (Half (Body.Task n) j) ((s, (x, chosen, r)), e) = ((s, (x, chosen, running_later r)), e)
  placed_stays (Half (Body.Event n) j) ((s, (x, chosen, r)), e) = absurd (m.event_not_begun chosen.1)

  -- the record that was dropped stands in the slot after tail
  attends : AtWork p v.queue q next v.tail fewer.posting 0 (carried d.burst 1) (dropped_at v.queue (slot_after q v.tail))
  unfolding after_drop with_records records_at record_stores slot
  attends =
      let fewer-by-one = distance-head q v.head v.tail i.held.head_in from_head.tail_in some_record in
      record {
        least = omega arith;
        most = omega arith;
        known = m.known;
        room = omega (arith, fewer-by-one, distance_le q v.head v.tail i.held.head_in from_head.tail_in);
        posted_is = posted_is;
        dropped_is = ap (dropped_at v.queue) (sym m.full);
        inside = omega arith;
        made = tt;
      }

  passes : record_sound p v ≡ Ok tt
  unfolding record_sound
  passes = must-true _ (lt-ltb _ _ (known-waiting from_head v.head i.held.head_in (between_first v.head v.tail some_record)))

  pub drop-kept : Kept p v z k Step (drop_step p v d)
  unfolding drop_step judged tell begun_after apply with_handler after_drop with_records first_waiting
  drop-kept =
      rw passes
      (record {
        inside = tt;
        serial = fewer;
        tells = λ fuel l. drops;
        expected = tt;
        turn = tt;
        told = tt;
        begins = begun_stays;
        inv =
            inr
            (record {
              held =
                  record {
                    tasked = i.held.tasked;
                    head_in = slot_after_le q v.head i.held.head_in;
                    begun_in = i.held.begun_in;
                    waits =
                        rw (first_head stored v.phase refl (ne_eqb _ _ m.not_committing))
                        (record {
                          first_in = slot_after_le q v.head i.held.head_in;
                          tail_in = from_head.tail_in;
                          same = refl;
                          known = (subst (Known p) records_are from_head.known).1;
                        });
                  };
              on = i.on;
              handles = attends;
              marked = refl;
              count_in = i.count_in;
              placed = placed_stays d.place i.placed;
            });
      })
