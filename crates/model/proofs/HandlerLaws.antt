-- What a call does to the handler and its burst, and so to the burst on its way (specs/AllOrNone.antt), for all words and device states.
-- Assumes nothing.
use Prim.Native.Nat.{ℕ, ◌≤◌}
use mathlib.Core.Path.{◌≡◌, refl, sym, ap, ◌∙◌}
use mathlib.Core.Bool.{true, false}
use mathlib.Core.List.{List, []}
use lib.ListN.{length}
use Rattle.model.proofs.BurstLaws.{burst-passed, carried-length, carried_back, set_to_work_length}
use Rattle.model.proofs.DeviceLaws.{HandlerMade, judged_case, record_made, tail_made, Made, handler, commit_copy, commit_task, commit_open, commit_head, commit_begun, commit_phase, chosen_event, chosen_task, computed, jumped, loaded, overwritten, half_saved, saved, go_count, go_pending, go_open, go_phase, done_count, done_pending, done_phase, StepOutcome, refused, made, step_outcome, Works, works_storing, works_replacing, head_dropped}
use Rattle.model.proofs.SerialLaws.{adds}
use Rattle.model.proofs.TestLaws.{pick_true, pick-false, clash, must-passed, then_first, then_rest}
use Rattle.model.specs.AllOrNone.{way_after}
use Rattle.model.specs.Burst.{records_at, carried, burst_words}
use Rattle.model.specs.Calls.{Call, Boot, Step, Cut, Post, call, unless_refused, is_accept, accepted_events}
use Rattle.model.specs.Device.{Outcome, fresh, with_place, with_handler, started, choosing, begun_of, taken_up, boot_check, boot, cut, post_check, post, burst_length, handled, step, takes, set_to_work}
use Rattle.model.specs.Store.{Store, view}
use Rattle.model.specs.Test.{pick}
use Rattle.model.specs.Types.{Answer, Body, Device, Handler, None, Option, Record, Refusal, Replacing, Resting, Some, Storing}

-- ---- a step that isn't refused

-- a handler that stores its records
pub data Accepting : Handler → Type 0 where
  storing : {n c : ℕ} → Accepting (Storing n c)
  replacing : {c : ℕ} → Accepting (Replacing c)

works_accepts : {v : Store} {h : Handler} {n c : ℕ} {later : Handler} {dropped : Option Record} → Works v h n c later dropped → Accepting h
works_accepts works_storing = storing
works_accepts works_replacing = replacing

works_length : {v : Store} {h : Handler} {n c : ℕ} {later : Handler} {dropped : Option Record} → Works v h n c later dropped → burst_length later ≡ burst_length h
unfolding burst_length
works_length works_storing = refl
works_length works_replacing = refl

pub data HandlerGoes (d : Device) (o : Outcome) : Type 0 where
  rests : d.handler ≡ Resting → o.device.handler ≡ Resting → is_accept o.answer ≡ false → HandlerGoes d o
  stores : burst_length o.device.handler ≡ burst_length d.handler → o.device.burst ≡ d.burst → is_accept o.answer ≡ false → HandlerGoes d o
  accepts : {h : Handler} → d.handler ≡ h → Accepting h → o.device.handler ≡ Resting → is_accept o.answer ≡ true → HandlerGoes d o

handling : (p : List ℕ) (v : Store) (d : Device) {h : Handler} {n c : ℕ} {later : Handler} {dropped : Option Record} (o : Outcome) → d.handler ≡ h
    → Works v h n c later dropped → HandlerMade p v d n c later dropped o → HandlerGoes d o
unfolding is_accept with_handler burst_length
handling p v d o q w (record_made a s) = stores (works_length w ∙ ap burst_length (sym q)) refl refl
handling p v d o q w (tail_made a) = accepts q (works_accepts w) refl refl

handler_goes : (p : List ℕ) (v : Store) (d : Device) (o : Outcome) → Made p v d o → HandlerGoes d o
unfolding is_accept fresh with_place with_handler started choosing burst_length
handler_goes p v d o (handler q w m) = handling p v d o q w m
handler_goes p v d o (head_dropped q a l) = stores (ap burst_length (sym q)) refl refl
handler_goes p v d o (commit_copy h l m) = rests h.rests h.rests refl
handler_goes p v d o (commit_task h one e) = rests h.rests h.rests refl
handler_goes p v d o (commit_open h one e) = rests h.rests h.rests refl
handler_goes p v d o (commit_head h two e) = rests h.rests h.rests refl
handler_goes p v d o (commit_begun h e) = rests h.rests h.rests refl
handler_goes p v d o (commit_phase h e) = rests h.rests refl refl
handler_goes p v d o (chosen_event h e ne l) = rests h.rests h.rests refl
handler_goes p v d o (chosen_task h e) = rests h.rests h.rests refl
handler_goes p v d o (computed h) = rests h.rests h.rests refl
handler_goes p v d o (jumped h) = rests h.rests h.rests refl
handler_goes p v d o (loaded h l) = rests h.rests h.rests refl
handler_goes p v d o (overwritten h l e) = rests h.rests h.rests refl
handler_goes p v d o (half_saved h l e m) = rests h.rests h.rests refl
handler_goes p v d o (saved h) = rests h.rests h.rests refl
handler_goes p v d o (go_count h) = rests h.rests h.rests refl
handler_goes p v d o (go_pending h) = rests h.rests h.rests refl
handler_goes p v d o (go_open h) = rests h.rests h.rests refl
handler_goes p v d o (go_phase h) = rests h.rests refl refl
handler_goes p v d o (done_count h) = rests h.rests h.rests refl
handler_goes p v d o (done_pending h) = rests h.rests h.rests refl
handler_goes p v d o (done_phase h) = rests h.rests refl refl

-- ---- the burst on its way, and the events that a call accepts

pub record Way (d : Device) (c : Call) (o : Outcome) : Type 0 where
  pub next : handled o.device ≡ way_after (handled d) c o.answer
  pub accepted : accepted_events d.handler o.answer ≡ length (adds o.answer (handled d))
  -- an accepting step had a handler at work
  pub at_work : is_accept o.answer ≡ true → (h : Handler) × (d.handler ≡ h) × Accepting h × (d.on ≡ true)

none-handled : (d : Device) → d.handler ≡ Resting → handled d ≡ []
unfolding records_at burst_length
none-handled d e = ap (λ (h : Handler). carried d.burst (burst_length h)) e

-- none is accepted
none-accepted : (d : Device) (a : Answer) → is_accept a ≡ false → accepted_events d.handler a ≡ length (adds a (handled d))
unfolding accepted_events adds
none-accepted d a e = pick-false _ _ e ∙ ap length (sym (pick-false (handled d) [] e))

all-accepted : (d : Device) (a : Answer) → is_accept a ≡ true → accepted_events d.handler a ≡ length (adds a (handled d))
unfolding accepted_events adds
all-accepted d a e = pick_true _ _ e ∙ sym (carried-length d.burst 0 (burst_length d.handler)) ∙ ap length (sym (pick_true (handled d) [] e))

step_way : (d : Device) (o : Outcome) → d.on ≡ true → HandlerGoes d o → Way d Step o
unfolding way_after burst_length
step_way d o on (rests q r e) =
    record {
      next = none-handled o.device r ∙ sym (pick-false [] (handled d) e ∙ none-handled d q);
      accepted = none-accepted d o.answer e;
      at_work = λ f. clash f e;
    }
step_way d o on (stores r b e) =
    record {
      next =
          ap (λ (n : ℕ). carried o.device.burst n) r
          ∙ ap (λ (ws : List ℕ). carried ws (burst_length d.handler)) b
          ∙ sym (pick-false [] (handled d) e);
      accepted = none-accepted d o.answer e;
      at_work = λ f. clash f e;
    }
step_way d o on (accepts {h = h} q w r e) =
    record {
      next = none-handled o.device r ∙ sym (pick_true [] (handled d) e);
      accepted = all-accepted d o.answer e;
      at_work = λ f. (h, q, w, on);
    }

refused_way : (d : Device) (c : Call) (o : Outcome) (r : Refusal) → o.device ≡ d → o.answer ≡ Answer.Refused r → ((rs : List Record) → way_after rs c (Answer.Refused r) ≡ rs) → Way d c o
unfolding is_accept
refused_way d c o r same e stays =
    let no : is_accept o.answer ≡ false = ap is_accept e in
    record {
      next = ap handled same ∙ sym (ap (way_after (handled d) c) e ∙ stays (handled d));
      accepted = none-accepted d o.answer no;
      at_work = λ f. clash f no;
    }

-- a call that answers done, and whose device then has this on its way
done_way : (d : Device) (c : Call) (o : Outcome) → o.answer ≡ Answer.Done → handled o.device ≡ way_after (handled d) c Answer.Done → Way d c o
unfolding is_accept
done_way d c o e next =
    let no : is_accept o.answer ≡ false = ap is_accept e in
    record {
      next = next ∙ ap (way_after (handled d) c) (sym e);
      accepted = none-accepted d o.answer no;
      at_work = λ f. clash f no;
    }

taken_up_handled : (v : Store) (g : Option Body) → handled (taken_up v g) ≡ []
unfolding taken_up started with_place fresh records_at burst_length
taken_up_handled v None = refl
taken_up_handled v (Some b) = refl

posted-handled : (v : Store) (d : Device) (rs : List Record) → length rs ≤ 4 → takes v (length rs) ≡ true
    → handled (with_handler d (set_to_work v (length rs)) (burst_words rs)) ≡ rs
unfolding with_handler
posted-handled v d rs most e = ap (carried (burst_words rs)) (set_to_work_length v (length rs) e) ∙ carried_back rs most

pub call_way : (p s : List ℕ) (d : Device) (c : Call) → Way d c (call p s d c)
unfolding call boot cut post post_check way_after unless_refused is_accept pick fresh records_at burst_length
call_way p s d Boot =
    judged_case (Way d Boot) (boot_check p s d) (λ r e. refused_way d Boot _ r refl refl (λ rs. refl))
    (λ e. done_way d Boot _ refl (taken_up_handled (view s) (begun_of (view s))))
call_way p s d Step = by_outcome (step p s d) (step_outcome p s d)
  where
    by_outcome : (o : Outcome) → StepOutcome p s d o → Way d Step o
    by_outcome o (refused {r = r} w) = refused_way d Step o r refl refl (λ rs. refl)
    by_outcome o (made early m e) = step_way d o early.on (handler_goes p (view s) d o m)
call_way p s d Cut = done_way d Cut _ refl refl
call_way p s d (Post rs) =
    judged_case (Way d (Post rs)) (post_check p s d rs) (λ r e. refused_way d (Post rs) _ r refl refl (λ rs. refl))
    (λ e.
    let rest = then_rest _ _ e in
    let fits = must-passed _ _ (then_rest _ _ (then_rest _ _ (then_rest _ _ rest))) in
    done_way d (Post rs) _ refl (posted-handled (view s) d rs (burst-passed rs (must-passed _ _ (then_first _ _ rest))).1 fits))
