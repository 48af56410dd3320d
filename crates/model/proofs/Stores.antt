-- What a step stores: its answer tells whether a store was made, and the word lies inside the store. A line for each case of a step
-- (DeviceLaws). Assumes nothing.
use Prim.Native.Nat.{ℕ, ◌≤◌, ◌<◌}
use mathlib.Core.List.{List}
use mathlib.Core.Path.{◌≡◌, refl, subst}
use native.Mathlib.Omega.{arith}
use lib.ListN.{length}
use Rattle.model.proofs.DeviceLaws.{HandlerMade, Made, record_made, tail_made, handler, commit_copy, commit_task, commit_open, commit_head, commit_begun, commit_phase, chosen_event, chosen_task, computed, jumped, loaded, overwritten, half_saved, saved, go_count, go_pending, go_open, go_phase, done_count, done_pending, done_phase, StepOutcome, refused, made, step_outcome, head_dropped}
use Rattle.model.proofs.Passed.{sized}
use Rattle.model.proofs.LogLaws.{find_pair}
use Rattle.model.proofs.RingLaws.{event_store, datum_store, slot_in}
use Rattle.model.proofs.StoreLaws.{Sized, Inside}
use Rattle.model.specs.Accepted.{Looked}
use Rattle.model.specs.Calls.{is_store}
use Rattle.model.specs.Claims.{tells_store, StoreIsTold}
use Rattle.model.specs.Device.{Outcome, choosing, step}
use Rattle.model.specs.Program.{word, memory_words}
use Rattle.model.specs.Store.{view, Word, Phase, Task, Open, Count, Pending, PendingOpen, Head, Tail, Begun, Memory, Address, Value, Event, Datum, index, Write, none, to}
use Rattle.model.specs.Types.{Device, Handler, Option, Record}

-- the place of a word that is there
inside-index : (m l q : ℕ) (s : List ℕ) → Sized m l q s → (w : Word) → Inside m l q w → index s w < length s
unfolding index
inside-index m l q s z Phase h = omega (arith, z.length_is)
inside-index m l q s z Task h = omega (arith, z.length_is)
inside-index m l q s z Open h = omega (arith, z.length_is)
inside-index m l q s z Count h = omega (arith, z.length_is)
inside-index m l q s z Pending h = omega (arith, z.length_is)
inside-index m l q s z PendingOpen h = omega (arith, z.length_is)
inside-index m l q s z Head h = omega (arith, z.length_is)
inside-index m l q s z Tail h = omega (arith, z.length_is)
inside-index m l q s z Begun h = omega (arith, z.length_is)
inside-index m l q s z (Memory a) h = omega (arith, z.length_is)
inside-index m l q s z (Address j) h = omega (arith, z.length_is, z.memory_is)
inside-index m l q s z (Value j) h = omega (arith, z.length_is, z.memory_is)
inside-index m l q s z (Event i) h = omega (arith, z.length_is, z.memory_is, z.pairs_is)
inside-index m l q s z (Datum i) h = omega (arith, z.length_is, z.memory_is, z.pairs_is)

-- a store to a word that is there, in a store of the largest size at most
abbrev Falls : List ℕ → List ℕ → Write → Type 0
Falls p s none = Unit {0}
Falls p s (to w x) = (index s w < length s) × (length s ≤ 1235)

abbrev Fine : List ℕ → List ℕ → Outcome → Type 0
Fine p s o = (is_store o.write ≡ tells_store o.answer) × Falls p s o.write

module _ (p s : List ℕ) (d : Device) (early : Looked p s d) where
  falls : (w : Word) → Inside (memory_words p) (word s 2) (word s 3) w → (index s w < length s) × (length s ≤ 1235)
  falls w h = (
    inside-index (memory_words p) (word s 2) (word s 3) s (sized early.shaped) w h,
    omega (arith, early.shaped.shaped.length_is, early.shaped.shaped.most_memory, early.shaped.shaped.sizes.most_pairs, early.shaped.shaped.sizes.most_records),
  )

  handling_fine : {n c : ℕ} {later : Handler} {dropped : Option Record} (o : Outcome) → HandlerMade p (view s) d n c later dropped o → Fine p s o
  unfolding is_store tells_store
  handling_fine o (record_made a (event_store n r l m)) = (refl, falls (Event _) (slot_in (view s).head n early.control.tail_in a.room l))
  handling_fine o (record_made a (datum_store n r l m)) = (refl, falls (Datum _) (slot_in (view s).head n early.control.tail_in a.room l))
  handling_fine o (tail_made a) = (refl, falls Tail tt)

  made_fine : (o : Outcome) → Made p (view s) d o → Fine p s o
  unfolding is_store tells_store choosing
  made_fine o (handler q w m) = handling_fine o m
  made_fine o (head_dropped q a l) = (refl, falls Head tt)
  made_fine o (commit_copy {c} h l m) = (refl, falls (Memory _) m)
  made_fine o (commit_task h one e) = (refl, falls Task tt)
  made_fine o (commit_open h one e) = (refl, falls Open tt)
  made_fine o (commit_head h two e) = (refl, falls Head tt)
  made_fine o (commit_begun h e) = (refl, falls Begun tt)
  made_fine o (commit_phase h e) = (refl, falls Phase tt)
  made_fine o (chosen_event h none_open some l) = (refl, falls Begun tt)
  made_fine o (chosen_task h n) = (refl, falls Begun tt)
  made_fine o (computed h) = (refl, tt)
  made_fine o (jumped h) = (refl, tt)
  made_fine o (loaded h l) = (refl, tt)
  made_fine o (overwritten {i = i} h l e) =
      let there : i < d.count = (find_pair (view s).log d.count _ i e).0 in
      (refl, falls (Value i) (omega (arith, early.count_in)))
  made_fine o (half_saved h l e k) = (refl, falls (Address d.count) k)
  made_fine o (saved h) = (refl, falls (Value d.count) h.stands.2)
  made_fine o (go_count h) = (refl, falls Count tt)
  made_fine o (go_pending h) = (refl, falls Pending tt)
  made_fine o (go_open h) = (refl, falls PendingOpen tt)
  made_fine o (go_phase h) = (refl, falls Phase tt)
  made_fine o (done_count h) = (refl, falls Count tt)
  made_fine o (done_pending h) = (refl, falls Pending tt)
  made_fine o (done_phase h) = (refl, falls Phase tt)

fine : (p s : List ℕ) (d : Device) (o : Outcome) → StepOutcome p s d o → Fine p s o
unfolding is_store tells_store
fine p s d o (refused w) = (refl, tt)
fine p s d o (made early m u) = made_fine p s d early o m

pub store_is_told : StoreIsTold
store_is_told p s d =
    let f = fine p s d (step p s d) (step_outcome p s d) in
    record { made = f.0; inside = λ w x e. (subst (Falls p s) e f.1).0; most = λ w x e. (subst (Falls p s) e f.1).1 }
