-- After 23 or 24 every step repeats that refusal until a cut, save for handler steps: for all words and device states. `why` says that
-- an instruction met it; what a handler stores, tail and slots behind it, is nothing that the instruction reads, and the early checks
-- pass again (LookStays). Assumes nothing.
use Prim.Native.Nat.{ℕ, ◌+◌, ◌-◌, ◌*◌, ◌≤◌}
use mathlib.Core.Path.{◌≡◌, refl, sym, ap, ◌∙◌, subst}
use mathlib.Core.Logic.{◌≢◌}
use mathlib.Core.Bool.{Bool, true, false, not}
use mathlib.Core.List.{List, [], ◌∷◌}
use native.Mathlib.Omega.{arith}
use lib.Dec.{leb, eqb}
use borrow.Author.Tests.{ne_eqb}
use lib.ListN.{length}
use Rattle.model.proofs.DeviceLaws.{HandlerMade, judged_case, step-acts, load_refused, save_refused, save_full, record_made, tail_made, Acts, RunsAt, Meets, by_record, by_pair, by_body, load_above, save_above, log-full, Why, looked, met, why, Made, StepOutcome, made, refused, step_outcome, handler, head_dropped, works_storing, works_replacing, by_dropped, commit_copy, commit_task, commit_open, commit_head, commit_begun, commit_phase, chosen_event, chosen_task, computed, jumped, loaded, overwritten, half_saved, saved, go_count, go_pending, go_open, go_phase, done_count, done_pending, done_phase, Works}
use Rattle.model.proofs.Early.{look_rests}
use Rattle.model.proofs.Passed.{sized}
use Rattle.model.proofs.LookStays.{look_stays}
use Rattle.model.proofs.Numbers.{Low, low-contents, low-store, low-inside, low_used, low-body}
use Rattle.model.proofs.RingLaws.{distance_some, slot_apart, RecordStore, event_store, datum_store, slot_in, queue_after, slot_stays}
use Rattle.model.proofs.StoreLaws.{apply, with_queue, Inside, view_after, with_next}
use Rattle.model.proofs.TestLaws.{pick-false, clash, impossible, must-passed, then_rest, Refuses, refuses_accepted, refuses_must, refuses_then, pick_case}
use Rattle.model.specs.Accepted.{Looked, MayRun, Attends}
use Rattle.model.specs.Answer.{refusal}
use Rattle.model.specs.Burst.{carried, no_burst}
use Rattle.model.specs.Calls.{Call, Boot, Step, Cut, Post, call, after_calls, unless_refused, is_refusal}
use Rattle.model.specs.Claims.{Stays, address, log_full, uncut, RefusalStays, sound_after}
use Rattle.model.specs.Control.{Rule, obey, obey_all, open_rule, task_rule}
use Rattle.model.specs.Device.{Outcome, out, refuse, with_handler, resting, zeros, look, boot, boot_check, post, post_check, record_sound, head_sound, head_is, open_sound, body_sound, act, step, kind_of, set_to_work}
use Rattle.model.specs.Program.{word, memory_words, body_number}
use Rattle.model.specs.Store.{Store, view, event, distance, slot, Word, Event, Datum, Tail, Write, to, queue_at, index, settled, stored_word, forward, Head}
use Rattle.model.specs.Test.{pick, ◌or◌, must, both, either}
use Rattle.model.specs.Types.{Answer, Body, Checked, Device, Dropping, Effect, Err, Handler, Ok, Option, Place, Record, Refusal, Replacing, Resting, Run, Storing}

-- ---- 23 and 24 come from an instruction alone

late : Refusal → Bool
late r = eqb (refusal r).number 23 or eqb (refusal r).number 24

stays_late : (r : Refusal) → Stays r → late r ≡ true
unfolding late refusal either
stays_late r address = refl
stays_late r log_full = refl

stays_high : (r : Refusal) → Stays r → leb (refusal r).number 6 ≡ false
unfolding refusal
stays_high r address = refl
stays_high r log_full = refl

-- a check that refuses otherwise
abbrev Other : Checked → Type 0
Other c = Refuses (λ r. Stays r → ⊥) c

other_must : (b : Bool) (r : Refusal) → late r ≡ false → Other (must b r)
other_must b r e = refuses_must b r (λ _ w. clash (stays_late r w) e)

other_low : (c : Checked) → Low c → Other c
other_low c l = record { with_such = λ r e w. clash (l.with_such r e) (stays_high r w) }

other_rules : (rs : List Rule) → Other (obey_all rs)
unfolding obey_all obey late refusal either
other_rules [] = refuses_accepted
other_rules (r ∷ rs) = refuses_then _ _ (other_must _ _ refl) (other_rules rs)

other_look : (p s : List ℕ) (d : Device) → Other (look p s d)
unfolding look late refusal either
other_look p s d =
    refuses_then _ _ (other_low _ (low-contents p))
    (refuses_then _ _ (other_low _ (low-store p s)) (refuses_then _ _ (other_rules _) (refuses_then _ _ (other_must _ _ refl) (other_must _ _ refl))))

other_head : (p : List ℕ) (v : Store) (b : Body) → Other (head_sound p v b)
unfolding head_sound record_sound late refusal either
other_head p v (Body.Task t) = refuses_accepted
other_head p v (Body.Event e) = other_must _ _ refl

other_open : (p : List ℕ) (v : Store) (b : Body) → Other (open_sound p v b)
unfolding open_sound obey late refusal either
other_open p v (Body.Task t) = other_must _ _ refl
other_open p v (Body.Event e) = refuses_accepted

other_body : (p : List ℕ) (v : Store) (x : Place) (b : Body) (j : ℕ) (f : Effect) → Other (body_sound p v x b j f)
unfolding body_sound late refusal either
other_body p v x b j f =
    refuses_then _ _ (other_head p v b)
    (refuses_then _ _ (other_low _ (low-inside p))
    (refuses_then _ _ (other_low _ (low_used p (body_number p b)))
    (refuses_then _ _ (other_low _ (low-body p (body_number p b) j _ f)) (refuses_then _ _ (other_open p v b) (other_must _ _ refl)))))

-- ---- the same refusal where the queue, head and tail are other ones, but for the record at head of an event that is begun

abbrev with_ring : Store → List ℕ → ℕ → ℕ → Store
with_ring v queue h t = with_queue (with_next v v.task v.open_number h) queue t

module _ (p : List ℕ) (v : Store) (queue : List ℕ) (h t : ℕ)
    (same : v.begun ≡ 2 → v.head ≢ v.tail → (h ≡ v.head) × (word queue (2 * v.head) ≡ event v v.head)) where
  -- what a body's checks read of the queue is the record at head, if it is an event
  body_same : (x : Place) (b : Body) (j : ℕ) (f : Effect) → MayRun p v b → body_sound p (with_ring v queue h t) x b j f ≡ body_sound p v x b j f
  unfolding body_sound head_sound record_sound open_sound head_is open_rule task_rule kind_of
  body_same x (Body.Task n) j f m = refl
  body_same x (Body.Event n) j f m = let (head, record') = same m.1 m.0.2 in rw (head, record')

  module _ (s : List ℕ) (d : Device) (rests : d.handler ≡ Resting) (looks : look p s d ≡ Ok tt) (parts : view s ≡ with_ring v queue h t) where
    acts_again : {b : Body} {j c : ℕ} {f : Effect} {r : Refusal} → RunsAt p v d b j c f → act p (with_ring v queue h t) d b j c f ≡ refuse d r
        → (step p s d).answer ≡ Answer.Refused r
    acts_again {b} {j} {c} {f} a e =
        ap (λ (o : Outcome). o.answer)
        (step-acts p s d looks rests b j c f a.place a.does (rw parts (body_same (Run b j c) b j f a.stands.1 ∙ a.sound))
        ∙ ap (λ (u : Store). act p u d b j c f) parts
        ∙ e)

    again : (r : Refusal) → Stays r → Meets p v d r → (step p s d).answer ≡ Answer.Refused r
    unfolding late refusal either
    again r w (by_record h o ne l) = clash (stays_late _ w) refl
    again r w (by_pair h l m) = clash (stays_late _ w) refl
    again r w (by_body x b j f q at_body z m e) = absurd ((other_body p v x b j f).with_such r e w)
    again r w (load_above h l) = acts_again h (load_refused p _ d _ _ _ _ _ l)
    again r w (save_above h l) = acts_again h (save_refused p _ d _ _ _ _ _ l)
    again r w (log-full h l e k) = acts_again h (save_full p _ d _ _ _ _ _ l e k)

-- ---- what an instruction meets doesn't depend on the handler or its burst

module _ (p : List ℕ) (v : Store) (d : Device) where
  acts_rests : (burst : List ℕ) {x : Place} {b : Body} {j : ℕ} {f : Effect} → Acts p v d x b j f → Acts p v (with_handler d Resting burst) x b j f
  unfolding with_handler
  acts_rests burst h = record { rests = refl; place = h.place; stands = h.stands; does = h.does; sound = h.sound; legal = h.legal }

  meets_rests : (burst : List ℕ) (r : Refusal) → Stays r → Meets p v d r → Meets p v (with_handler d Resting burst) r
  unfolding with_handler late refusal either
  meets_rests burst r w (by_record h o ne l) = clash (stays_late _ w) refl
  meets_rests burst r w (by_pair h l m) = clash (stays_late _ w) refl
  meets_rests burst r w (by_body x b j f q at_body z m e) = by_body x b j f q at_body z m e
  meets_rests burst r w (load_above h l) = load_above (acts_rests burst h) l
  meets_rests burst r w (save_above h l) = save_above (acts_rests burst h) l
  meets_rests burst r w (log-full h l e k) = log-full (acts_rests burst h) l e k

-- ---- a step that 23 or 24 refuses, were its handler at rest

pub record Stuck (p s : List ℕ) (d : Device) (r : Refusal) : Type 0 where
  pub met : (step p s (resting d)).answer ≡ Answer.Refused r
  -- a handler at rest has no burst
  pub no_burst_lem : d.handler ≡ Resting → zeros d.burst 8 ≡ true

-- why such a step is refused
stuck_why : (p s : List ℕ) (d : Device) (r : Refusal) → Stays r → (step p s d).answer ≡ Answer.Refused r
    → Looked p s d × (d.handler ≡ Resting) × Meets p (view s) d r
unfolding late refusal either
stuck_why p s d r w e = by_why (why p s d r e).0 refl
  where
    by_why : {q : Refusal} → Why p s d q → q ≡ r → Looked p s d × (d.handler ≡ Resting) × Meets p (view s) d r
    by_why (looked f) same = absurd ((other_look p s d).with_such r (f ∙ ap Err same) w)
    by_why (met early rests m) same = (early, rests, subst (Meets p (view s) d) same m)
    by_why (by_dropped early q l) same = clash (ap late same ∙ stays_late r w) refl

-- so it is refused with any words of zeros beside a handler at rest
any_zeros : (p s : List ℕ) (d : Device) (burst : List ℕ) (r : Refusal) → Stays r → zeros burst 8 ≡ true → (step p s d).answer ≡ Answer.Refused r
    → (step p s (with_handler d Resting burst)).answer ≡ Answer.Refused r
unfolding with_handler
any_zeros p s d burst r w none e =
    let (early, rests, m) = stuck_why p s d r w e in
    again p (view s) (view s).queue (view s).head (view s).tail (λ _ _. (refl, refl)) s (with_handler d Resting burst) refl (look_rests p s d burst none early.passed) refl r w
    (meets_rests p (view s) d burst r w m)

-- it begins so
stuck_first : (p s : List ℕ) (d : Device) (r : Refusal) → Stays r → (step p s d).answer ≡ Answer.Refused r → Stuck p s d r
unfolding zeros both
stuck_first p s d r w e =
    let (early, rests, m) = stuck_why p s d r w e in
    record { met = any_zeros p s d no_burst r w refl e; no_burst_lem = λ _. subst (Attends p (view s) d.burst) rests early.handler }

rests_is : (d : Device) → d.handler ≡ Resting → with_handler d Resting d.burst ≡ d
unfolding with_handler
rests_is d e = λ i. record { on = d.on; registers = d.registers; place = d.place; count = d.count; handler = sym e i; burst = d.burst }

-- and with the handler that it has, if that is at rest
stuck_rests : (p s : List ℕ) (d : Device) (r : Refusal) → Stays r → Stuck p s d r → d.handler ≡ Resting → (step p s d).answer ≡ Answer.Refused r
unfolding with_handler
stuck_rests p s d r w k q = ap (λ (u : Device). (step p s u).answer) (sym (rests_is d q)) ∙ any_zeros p s (resting d) d.burst r w (k.no_burst_lem q) k.met

module _ (p s : List ℕ) (d : Device) (r : Refusal) (w : Stays r) (k : Stuck p s d r) where
  abbrev v : Store
  v = view s

  abbrev StuckAfter : Outcome → Type 0
  StuckAfter o = Stuck p (settled s o.write) o.device r

  meets : Looked p s (resting d) × Meets p v (resting d) r
  meets = let (early, rests, m) = stuck_why p s (resting d) r w k.met in (early, m)

  -- a store by the handler, which is at rest behind it without a burst
  stored : (x : Word) (y : ℕ) (h : Handler) (burst : List ℕ) (a : Answer) (queue : List ℕ) (h' t : ℕ) → step p s d ≡ out (to x y) (with_handler d h burst) a
      → is_refusal a ≡ false → sound_after (stored_word s (to x y)) a (settled s (to x y)) ≡ true
      → Inside (memory_words p) v.log_pairs v.queue_records x → apply v (to x y) ≡ with_ring v queue h' t
      → (v.begun ≡ 2 → v.head ≢ v.tail → (h' ≡ v.head) × (word queue (2 * v.head) ≡ event v v.head)) → (h ≡ Resting → zeros burst 8 ≡ true) → StuckAfter (out (to x y) (with_handler d h burst) a)
  unfolding with_handler zeros both
  stored x y h burst a queue h' t is unrefused sound inside parts same none =
      let s' = settled s (to x y) in
      let looks = look_stays p s d (ap (λ (o : Outcome). is_refusal o.answer) is ∙ unrefused)
      (ap (λ (o : Outcome). sound_after (stored_word s o.write) o.answer (settled s o.write)) is ∙ sound) in
      record {
        no_burst_lem = none;
        met =
            again p v queue h' t same s' (resting d) refl
            (look_rests p s' (with_handler d h burst) no_burst refl (subst (λ (o : Outcome). look p (settled s o.write) o.device ≡ Ok tt) is looks))
            (view_after (memory_words p) v.log_pairs v.queue_records s (sized meets.0.shaped) x y inside ∙ parts) r w meets.1;
      }

  -- the record at head, if one waits, isn't where the handler stores
  head_stays : (rs : List Record) (w : Write) → RecordStore v.queue_records v.tail rs w → length rs ≤ v.queue_records - distance v.queue_records v.head v.tail
      → v.head ≢ v.tail → word (queue_after v.queue w) (2 * v.head) ≡ event v v.head
  unfolding slot forward
  head_stays rs w store room ne =
      let c = meets.0.control in
      ap (λ (x : Record). x.event)
      (slot_stays v.queue v.queue_records v.tail rs w store v.head
      (λ n l.
      slot_apart v.queue_records v.head v.tail n c.head_in c.tail_in (omega (arith, room)) 0
      (distance_some v.queue_records v.head v.tail c.head_in c.tail_in ne)))

  -- its stores aren't the phase's
  event-sound : (u y : ℕ) (words : List ℕ) → sound_after (stored_word s (to (Event u) y)) Answer.Stored words ≡ true
  unfolding sound_after stored_word index
  event-sound u y words = pick-false _ _ (ne_eqb (queue_at (word s 1) (word s 2) + 2 * u) 8 (omega arith))

  datum-sound : (u y : ℕ) (words : List ℕ) → sound_after (stored_word s (to (Datum u) y)) Answer.Stored words ≡ true
  unfolding sound_after stored_word index
  datum-sound u y words = pick-false _ _ (ne_eqb (queue_at (word s 1) (word s 2) + (2 * u + 1)) 8 (omega arith))

  tail-sound : (dropped : Option Record) (y : ℕ) (words : List ℕ) → sound_after (stored_word s (to Tail y)) (Answer.Accepted dropped) words ≡ true
  unfolding sound_after stored_word index pick
  tail-sound dropped y words = refl

  head-sound : (y : ℕ) (words : List ℕ) → sound_after (stored_word s (to Head y)) Answer.Stored words ≡ true
  unfolding sound_after stored_word index pick
  head-sound y words = refl

  -- one that goes on isn't at rest
  not_resting : {h : Handler} {n c : ℕ} {later : Handler} {dropped : Option Record} → Works v h n c later dropped → later ≡ Resting → zeros d.burst 8 ≡ true
  not_resting works_storing e = impossible (cc)
  not_resting works_replacing e = impossible (cc)

  handling_stuck : {h : Handler} {n c : ℕ} {later : Handler} {dropped : Option Record} (o : Outcome) → Works v h n c later dropped
      → HandlerMade p v d n c later dropped o → step p s d ≡ o → StuckAfter o
  unfolding apply queue_after is_refusal unless_refused zeros both
  handling_stuck {n = n} {later = later} o g (record_made a (event_store i y l m)) is =
      stored (Event _) y.event later d.burst Answer.Stored _ v.head v.tail is refl (event-sound _ _ _)
      (slot_in v.head i meets.0.control.tail_in a.room l) refl
      (λ _ ne. (refl, head_stays (carried d.burst n) _ (event_store i y l m) a.room ne)) (not_resting g)
  handling_stuck {n = n} {later = later} o g (record_made a (datum_store i y l m)) is =
      stored (Datum _) y.datum later d.burst Answer.Stored _ v.head v.tail is refl (datum-sound _ _ _)
      (slot_in v.head i meets.0.control.tail_in a.room l) refl
      (λ _ ne. (refl, head_stays (carried d.burst n) _ (datum_store i y l m) a.room ne)) (not_resting g)
  handling_stuck {dropped = dropped} o g (tail_made a) is =
      stored Tail _ Resting no_burst (Answer.Accepted dropped) v.queue v.head _ is refl (tail-sound dropped _ _) tt refl (λ _ _. (refl, refl)) (λ _. refl)

  stuck_made : (o : Outcome) → Made p v d o → (d.handler ≡ Resting → ⊥) → step p s d ≡ o → StuckAfter o
  unfolding apply queue_after is_refusal unless_refused zeros both
  stuck_made o (handler q g m) busy is = handling_stuck o g m is
  stuck_made o (head_dropped q a l) busy is =
      stored Head _ (Replacing 0) d.burst Answer.Stored v.queue _ v.tail is refl (head-sound _ _) tt refl (λ two _. absurd (a.event_not_begun two))
      (λ e. impossible (cc))
  stuck_made o (commit_copy h l m) busy is = absurd (busy h.rests)
  stuck_made o (commit_task h one e) busy is = absurd (busy h.rests)
  stuck_made o (commit_open h one e) busy is = absurd (busy h.rests)
  stuck_made o (commit_head h two e) busy is = absurd (busy h.rests)
  stuck_made o (commit_begun h e) busy is = absurd (busy h.rests)
  stuck_made o (commit_phase h e) busy is = absurd (busy h.rests)
  stuck_made o (chosen_event h e ne l) busy is = absurd (busy h.rests)
  stuck_made o (chosen_task h e) busy is = absurd (busy h.rests)
  stuck_made o (computed h) busy is = absurd (busy h.rests)
  stuck_made o (jumped h) busy is = absurd (busy h.rests)
  stuck_made o (loaded h l) busy is = absurd (busy h.rests)
  stuck_made o (overwritten h l e) busy is = absurd (busy h.rests)
  stuck_made o (half_saved h l e m) busy is = absurd (busy h.rests)
  stuck_made o (saved h) busy is = absurd (busy h.rests)
  stuck_made o (go_count h) busy is = absurd (busy h.rests)
  stuck_made o (go_pending h) busy is = absurd (busy h.rests)
  stuck_made o (go_open h) busy is = absurd (busy h.rests)
  stuck_made o (go_phase h) busy is = absurd (busy h.rests)
  stuck_made o (done_count h) busy is = absurd (busy h.rests)
  stuck_made o (done_pending h) busy is = absurd (busy h.rests)
  stuck_made o (done_phase h) busy is = absurd (busy h.rests)

  stuck_busy : (d.handler ≡ Resting → ⊥) → (o : Outcome) → StepOutcome p s d o → step p s d ≡ o → StuckAfter o
  unfolding settled
  stuck_busy busy o (refused f) is = k
  stuck_busy busy o (made early m e) is = stuck_made o m busy is

  stuck_step : (h : Handler) → d.handler ≡ h → StuckAfter (step p s d)
  unfolding settled
  stuck_step Resting q = subst StuckAfter (sym (why p s d r (stuck_rests p s d r w k q)).1) k
  stuck_step (Storing n c) q = stuck_busy (λ e. impossible (cc)) (step p s d) (step_outcome p s d) refl
  stuck_step Dropping q = stuck_busy (λ e. impossible (cc)) (step p s d) (step_outcome p s d) refl
  stuck_step (Replacing c) q = stuck_busy (λ e. impossible (cc)) (step p s d) (step_outcome p s d) refl

  at_work : (u : Store) (n : ℕ) → set_to_work u n ≡ Resting → ⊥
  unfolding set_to_work
  at_work u n = pick_case (λ (h : Handler). h ≡ Resting → ⊥) (λ _ e. impossible (cc)) (λ _ e. impossible (cc))

  stuck_call : (c : Call) → uncut (c ∷ []) ≡ true → StuckAfter (call p s d c)
  unfolding call boot boot_check post settled with_handler uncut
  stuck_call Boot e =
      judged_case StuckAfter (boot_check p s d) (λ f _. k)
      (λ ok. clash (must-passed (not d.on) Refusal.PowerOn (then_rest _ _ (then_rest _ _ (then_rest _ _ ok)))) (ap not meets.0.on))
  stuck_call Step e = stuck_step d.handler refl
  stuck_call Cut e = clash e refl
  stuck_call (Post rs) e =
      judged_case StuckAfter (post_check p s d rs) (λ f _. k) (λ _. record { met = k.met; no_burst_lem = λ e. absurd (at_work (view s) (length rs) e) })

uncut-first : (c : Call) (cs : List Call) → uncut (c ∷ cs) ≡ true → (uncut (c ∷ []) ≡ true) × (uncut cs ≡ true)
unfolding uncut
uncut-first Boot cs e = (refl, e)
uncut-first Step cs e = (refl, e)
uncut-first Cut cs e = clash e refl
uncut-first (Post rs) cs e = (refl, e)

stuck_calls : (p s : List ℕ) (d : Device) (r : Refusal) → Stays r → Stuck p s d r → (cs : List Call) → uncut cs ≡ true
    → Stuck p (after_calls p s d cs).store (after_calls p s d cs).device r
unfolding after_calls
stuck_calls p s d r w k [] e = k
stuck_calls p s d r w k (c ∷ cs) e =
    let u = uncut-first c cs e in
    stuck_calls p (settled s (call p s d c).write) (call p s d c).device r w (stuck_call p s d r w k c u.0) cs u.1

-- and it repeats
pub refusal_stays : RefusalStays
unfolding call
refusal_stays p s d r w e cs u q =
    let now = after_calls p s d cs in
    stuck_rests p now.store now.device r w (stuck_calls p s d r w (stuck_first p s d r w e) cs u) q
