-- Laws of the serial run (specs/Serial.antt): what it needs at a body, the records that it adds and serves, the tasks that follow each other, and
-- that fuel doesn't change it.
-- Assumes nothing.
use Prim.Native.Nat.{ℕ, zero, suc, ◌+◌, ◌≤◌}
use mathlib.Core.Path.{◌≡◌, refl, sym, ap, ◌∙◌}
use mathlib.Core.Logic.{◌⊎◌, inl, inr}
use mathlib.Core.Bool.{Bool, true, false}
use mathlib.Core.List.{List, [], ◌∷◌, ◌++◌, append_assoc, append-nil}
use native.Mathlib.Nat.{not-suc-le-zero, le_of_suc-le-suc}
use native.Mathlib.Omega.{arith}
use borrow.Author.Tests.{eqb-true}
use lib.Dec.{ltb, eqb}
use lib.ListN.{set}
use Rattle.model.proofs.TestLaws.{below_or, and_left, and_right, impossible, pick_case}
use Rattle.model.specs.Calls.{Call, Boot, Step, Cut, Post, Line, is_accept}
use Rattle.model.specs.AllOrNone.{committed_event, events_of, Gone, was_committed, was_dropped, gone_records, committed_of, dropped_of}
use Rattle.model.specs.Demand3.{RunsTask, RunsEvent, RunsBody, SerialDetermined, committed_task, committed_tasks, named_at_end, named_by, from_state, named_tasks, TasksFollow}
use Rattle.model.specs.Program.{first_registers, word, memory_words, instructions, body_number, effect_at}
use Rattle.model.specs.Serial.{Serial, Formatting, Walked, went, served, lost, advance, walk, walk_body, after_task, after_event, serve_oldest, run_body, after_done, with_records, accept, tell, and_then, serial_from, serial, serial_start, after_stored, after_drop, drop_oldest, unchanged, after_post, no_post}
use Rattle.model.specs.Test.{pick, ◌and◌}
use Rattle.model.specs.Types.{Answer, Body, Effect, None, Option, Record, Some}

-- ---- options

not_some {ℓ} : {X : Type ℓ} {y : Serial} → None ≡ Some y → X
not_some e = impossible (cc)

pub some_same : {x y : Serial} → Some x ≡ Some y → x ≡ y
some_same e = cc

-- ---- a body that the serial run runs

by_end : (fuel : ℕ) (p : List ℕ) (z y : Serial) (t : ℕ) (w : Walked) → walk_body fuel p (Body.Task t) 0 z.memory ≡ w → t ≡ z.task
    → after_task p z w ≡ Some y → RunsTask p z fuel t
unfolding after_task
by_end fuel p z y t (went k m) q n e = record { current = n; next = k; memory = m; ends = q }
by_end fuel p z y t (served m) q n e = not_some e
by_end fuel p z y t lost q n e = not_some e

by_end' : (fuel : ℕ) (p : List ℕ) (z y : Serial) (e : ℕ) (x : Record) (rest : List Record) → z.records ≡ x ∷ rest → x.event ≡ e → z.open_number ≡ 0
    → (w : Walked) → walk_body fuel p (Body.Event e) x.datum z.memory ≡ w → after_event z rest w ≡ Some y → RunsEvent p z fuel e
unfolding after_event
by_end' fuel p z y e x rest there named closed (went k m) q f = not_some f
by_end' fuel p z y e x rest there named closed (served m) q f =
    record { oldest = x; rest = rest; there = there; named = named; closed = closed; memory = m; ends = q }
by_end' fuel p z y e x rest there named closed lost q f = not_some f

-- a choice that is some is made
chosen : (b : Bool) (x : Option Serial) (y : Serial) → pick b x None ≡ Some y → (b ≡ true) × (x ≡ Some y)
unfolding pick
chosen true x y e = (refl, e)
chosen false x y e = not_some e

pub runs-body : (fuel : ℕ) (p : List ℕ) (z y : Serial) (b : Body) → run_body fuel p z b ≡ Some y → RunsBody p z fuel b
unfolding run_body serve_oldest
runs-body fuel p z y (Body.Task t) e =
    let c = chosen _ _ y e in
    by_end fuel p z y t (walk_body fuel p (Body.Task t) 0 z.memory) refl (eqb-true _ _ c.0) c.1
runs-body fuel p z y (Body.Event e) f = by_oldest z.records refl f
  where
    by_oldest : (rs : List Record) → z.records ≡ rs → serve_oldest fuel p z e rs ≡ Some y → RunsEvent p z fuel e
    by_oldest [] q g = not_some g
    by_oldest (x ∷ rest) q g =
        let c = chosen _ _ y g in
        by_end' fuel p z y e x rest q (eqb-true _ _ (and_left _ _ c.0)) (eqb-true _ _ (and_right _ _ c.0))
        (walk_body fuel p (Body.Event e) x.datum z.memory) refl c.1

-- ---- the records: those that wait and those that are added, before; those served and those that wait, after

done_records : (q : ℕ) (z : Serial) (c : Call) → ((after_done q z c).records ≡ z.records) × ((after_done q z c).posting.dropped ≡ z.posting.dropped)
unfolding after_done after_post unchanged with_records no_post
done_records q z Boot = (refl, refl)
done_records q z Step = (refl, refl)
done_records q z Cut = (refl, refl)
done_records q z (Post rs) = (refl, refl)

task-records : (p : List ℕ) (z y : Serial) (w : Walked) → after_task p z w ≡ Some y → (y.records ≡ z.records) × (y.posting.dropped ≡ z.posting.dropped)
unfolding after_task no_post
task-records p z y (went k m) e = (ap (λ (x : Serial). x.records) (sym (some_same e)), ap (λ (x : Serial). x.posting.dropped) (sym (some_same e)))
task-records p z y (served m) e = not_some e
task-records p z y lost e = not_some e

event-records : (z y : Serial) (rest : List Record) (w : Walked) → after_event z rest w ≡ Some y
    → (y.records ≡ rest) × (y.posting.dropped ≡ z.posting.dropped)
unfolding after_event no_post
event-records z y rest (went k m) e = not_some e
event-records z y rest (served m) e = (ap (λ (x : Serial). x.records) (sym (some_same e)), ap (λ (x : Serial). x.posting.dropped) (sym (some_same e)))
event-records z y rest lost e = not_some e

-- the records that left: of those committed these events, and those dropped are these
pub record Leaves (before after : List Record) (es : List ℕ) (ds : List Record) : Type 0 where
  pub gone : List Gone
  pub is : before ≡ gone_records gone ++ after
  pub events_are : events_of (committed_of gone) ≡ es
  pub dropped_are : dropped_of gone ≡ ds

-- of a call: with all that were dropped before it and after it
pub record CallLeaves (z y : Serial) (before : List Record) (es : List ℕ) : Type 0 where
  pub lost : List Record
  pub leaves : Leaves before y.records es lost
  pub dropped_are : y.posting.dropped ≡ z.posting.dropped ++ lost

-- nothing left
none_left : {z y : Serial} {before : List Record} → before ≡ y.records → y.posting.dropped ≡ z.posting.dropped → CallLeaves z y before []
unfolding events_of gone_records committed_of dropped_of
none_left e f =
    record { lost = []; leaves = record { gone = []; is = e; events_are = refl; dropped_are = refl }; dropped_are = f ∙ sym (append-nil _) }

-- the oldest was committed
oldest-left : {z y : Serial} {before : List Record} (x : Record) (n : ℕ) → before ≡ x ∷ y.records → x.event ≡ n → y.posting.dropped ≡ z.posting.dropped
    → CallLeaves z y before (n ∷ [])
unfolding events_of gone_records committed_of dropped_of
oldest-left x n e g f =
    record {
      lost = [];
      leaves = record { gone = was_committed x ∷ []; is = e; events_are = ap (λ (m : ℕ). m ∷ []) g; dropped_are = refl };
      dropped_are = f ∙ sym (append-nil _);
    }

same_left : (z y u : Serial) → Some u ≡ Some y → u.records ≡ z.records → u.posting.dropped ≡ z.posting.dropped → CallLeaves z y z.records []
same_left z y u e f g =
    let same = some_same e in
    none_left (sym f ∙ ap (λ (x : Serial). x.records) same) (ap (λ (x : Serial). x.posting.dropped) (sym same) ∙ g)

body-leaves : (fuel : ℕ) (p : List ℕ) (z y : Serial) (b : Body) → run_body fuel p z b ≡ Some y
    → CallLeaves z y z.records (committed_event (Answer.Committed b))
unfolding run_body serve_oldest committed_event
body-leaves fuel p z y (Body.Task t) e =
    let (same, dropped) = task-records p z y (walk_body fuel p (Body.Task t) 0 z.memory) (chosen (eqb t z.task) _ y e).1 in
    none_left (sym same) dropped
body-leaves fuel p z y (Body.Event e) f = by_oldest z.records f
  where
    by_oldest : (rs : List Record) → serve_oldest fuel p z e rs ≡ Some y → CallLeaves z y rs (e ∷ [])
    by_oldest [] g = not_some g
    by_oldest (x ∷ rest) g =
        let c = chosen (eqb x.event e and eqb z.open_number 0) _ y g in
        let (same, dropped) = event-records z y rest (walk_body fuel p (Body.Event e) x.datum z.memory) c.1 in
        oldest-left x e (ap (λ (r : List Record). x ∷ r) (sym same)) (eqb-true _ _ (and_left _ _ c.0)) dropped

accept-leaves : (z y : Serial) (rs : List Record) → accept z rs ≡ Some y → CallLeaves z y (z.records ++ rs) []
unfolding accept with_records no_post
accept-leaves z y [] e = not_some e
accept-leaves z y (r ∷ rs) e =
    none_left (ap (λ (x : Serial). x.records) (some_same e)) (ap (λ (x : Serial). x.posting.dropped) (sym (some_same e)))

drop-leaves : (z y : Serial) (rs : List Record) → drop_oldest z rs ≡ Some y → CallLeaves z y rs []
unfolding drop_oldest after_drop with_records events_of gone_records committed_of dropped_of
drop-leaves z y [] e = not_some e
drop-leaves z y (r ∷ rs) e =
    record {
      lost = r ∷ [];
      leaves =
          record { gone = was_dropped r ∷ []; is = ap (λ (x : Serial). r ∷ x.records) (some_same e); events_are = refl; dropped_are = refl };
      dropped_are = ap (λ (x : Serial). x.posting.dropped) (sym (some_same e));
    }

stored-leaves : (z y : Serial) → after_stored z ≡ Some y → CallLeaves z y z.records []
unfolding after_stored unchanged with_records no_post
stored-leaves z y =
    pick_case (λ (o : Option Serial). o ≡ Some y → CallLeaves z y z.records []) (λ _ e. drop-leaves z y z.records e)
    (λ _ e. same_left z y (unchanged z) e refl refl)

-- at the answer accepted what was posted last is added
unfoldable pub adds : Answer → List Record → List Record
adds a rs = pick (is_accept a) rs []

pub tell-leaves : (fuel : ℕ) (g : Formatting) (z y : Serial) (c : Call) (a : Answer) → tell fuel g z c a ≡ Some y
    → CallLeaves z y (z.records ++ adds a z.posting.posted) (committed_event a)
unfolding tell unchanged with_records no_post adds is_accept pick committed_event
tell-leaves fuel g z y c Answer.Done e =
    let (same, dropped) = done_records g.queue_records z c in
    rw append-nil (same_left z y (after_done g.queue_records z c) e same dropped)
tell-leaves fuel g z y c (Answer.Chosen b) e = rw append-nil (same_left z y (unchanged z) e refl refl)
tell-leaves fuel g z y c Answer.Worked e = rw append-nil (same_left z y (unchanged z) e refl refl)
tell-leaves fuel g z y c Answer.Stored e = rw append-nil (stored-leaves z y e)
tell-leaves fuel g z y c (Answer.Committed b) e = rw append-nil (body-leaves fuel g.program z y b e)
tell-leaves fuel g z y c (Answer.Accepted d) e = accept-leaves z y z.posting.posted e
tell-leaves fuel g z y c (Answer.Refused r) e = rw append-nil (same_left z y z e refl refl)

then_none : (f : Serial → Option Serial) → and_then None f ≡ None
unfolding and_then
then_none f = refl

then_some : (w : Serial) (f : Serial → Option Serial) → and_then (Some w) f ≡ f w
unfolding and_then
then_some w f = refl

-- a serial run over a line and more
line_some : (fuel : ℕ) (g : Formatting) (z y : Serial) (x : Line) (xs : List Line) → serial_from fuel g z (x ∷ xs) ≡ Some y
    → (w : Serial) × (tell fuel g z x.called x.answered ≡ Some w) × (serial_from fuel g w xs ≡ Some y)
unfolding serial_from
line_some fuel g z y x xs e = go (tell fuel g z x.called x.answered) refl e
  where
    go : (o : Option Serial) → tell fuel g z x.called x.answered ≡ o → and_then o (λ w. serial_from fuel g w xs) ≡ Some y
        → (w : Serial) × (tell fuel g z x.called x.answered ≡ Some w) × (serial_from fuel g w xs ≡ Some y)
    go None q f = not_some (sym (then_none (λ w. serial_from fuel g w xs)) ∙ f)
    go (Some w) q f = (w, q, sym (then_some w (λ u. serial_from fuel g u xs)) ∙ f)

-- ---- each task is the one that the task before it named

done_task : (q : ℕ) (z : Serial) (c : Call) → (after_done q z c).task ≡ z.task
unfolding after_done after_post unchanged with_records
done_task q z Boot = refl
done_task q z Step = refl
done_task q z Cut = refl
done_task q z (Post rs) = refl

stored-task : (z y : Serial) → after_stored z ≡ Some y → y.task ≡ z.task
unfolding after_stored unchanged with_records drop_oldest after_drop
stored-task z y =
    pick_case (λ (o : Option Serial). o ≡ Some y → y.task ≡ z.task) (λ _ e. dropped-task z.records e) (λ _ e. ap (λ (u : Serial). u.task) (sym (some_same e)))
  where
    dropped-task : (rs : List Record) → drop_oldest z rs ≡ Some y → y.task ≡ z.task
    dropped-task [] e = not_some e
    dropped-task (r ∷ rs) e = ap (λ (u : Serial). u.task) (sym (some_same e))

accept-task : (z y : Serial) (rs : List Record) → accept z rs ≡ Some y → y.task ≡ z.task
unfolding accept with_records
accept-task z y [] e = not_some e
accept-task z y (r ∷ rs) e = ap (λ (u : Serial). u.task) (sym (some_same e))

event-task : (z y : Serial) (rest : List Record) (w : Walked) → after_event z rest w ≡ Some y → y.task ≡ z.task
unfolding after_event
event-task z y rest (went k m) e = not_some e
event-task z y rest (served m) e = ap (λ (u : Serial). u.task) (sym (some_same e))
event-task z y rest lost e = not_some e

oldest-task : (fuel : ℕ) (p : List ℕ) (z y : Serial) (e : ℕ) (rs : List Record) → serve_oldest fuel p z e rs ≡ Some y → y.task ≡ z.task
unfolding serve_oldest
oldest-task fuel p z y e [] f = not_some f
oldest-task fuel p z y e (x ∷ rest) f =
    event-task z y rest (walk_body fuel p (Body.Event e) x.datum z.memory) (chosen (eqb x.event e and eqb z.open_number 0) _ y f).1

-- the task that a task's run names is the next
ended-task : (p : List ℕ) (z y : Serial) (w : Walked) → after_task p z w ≡ Some y → named_at_end w ≡ y.task ∷ []
unfolding after_task named_at_end
ended-task p z y (went k m) e = ap (λ (u : Serial). u.task ∷ []) (some_same e)
ended-task p z y (served m) e = not_some e
ended-task p z y lost e = not_some e

line-tasks : (fuel : ℕ) (g : Formatting) (z y : Serial) (c : Call) (a : Answer) → tell fuel g z c a ≡ Some y → (ts : List ℕ)
    → committed_task a ++ (y.task ∷ ts) ≡ z.task ∷ (named_by fuel g.program z.memory (committed_task a) ++ ts)
unfolding tell unchanged with_records committed_task named_by run_body
line-tasks fuel g z y c Answer.Done e ts = ap (λ (t : ℕ). t ∷ ts) (ap (λ (u : Serial). u.task) (sym (some_same e)) ∙ done_task g.queue_records z c)
line-tasks fuel g z y c (Answer.Chosen b) e ts = ap (λ (u : Serial). u.task ∷ ts) (sym (some_same e))
line-tasks fuel g z y c Answer.Worked e ts = ap (λ (u : Serial). u.task ∷ ts) (sym (some_same e))
line-tasks fuel g z y c Answer.Stored e ts = ap (λ (t : ℕ). t ∷ ts) (stored-task z y e)
line-tasks fuel g z y c (Answer.Committed (Body.Task t)) e ts =
    let w = walk_body fuel g.program (Body.Task t) 0 z.memory in
    let h = chosen (eqb t z.task) (after_task g.program z w) y e in
    let current : t ≡ z.task = eqb-true _ _ h.0 in
    rw (ended-task g.program z y w h.1, current)
line-tasks fuel g z y c (Answer.Committed (Body.Event n)) e ts = ap (λ (t : ℕ). t ∷ ts) (oldest-task fuel g.program z y n z.records e)
line-tasks fuel g z y c (Answer.Accepted d) e ts = ap (λ (t : ℕ). t ∷ ts) (accept-task z y z.posting.posted e)
line-tasks fuel g z y c (Answer.Refused r) e ts = ap (λ (u : Serial). u.task ∷ ts) (sym (some_same e))

follow_from : (fuel : ℕ) (g : Formatting) (xs : List Line) (z y : Serial) → serial_from fuel g z xs ≡ Some y
    → committed_tasks xs ++ (y.task ∷ []) ≡ z.task ∷ named_tasks fuel g z xs
unfolding serial_from committed_tasks named_tasks from_state
follow_from fuel g [] z y e = ap (λ (u : Serial). u.task ∷ []) (sym (some_same e))
follow_from fuel g (x ∷ xs) z y e =
    let (w, q, f) = line_some fuel g z y x xs e in
    rw q
    (append_assoc (committed_task x.answered) (committed_tasks xs) (y.task ∷ [])
    ∙ ap (λ (ts : List ℕ). committed_task x.answered ++ ts) (follow_from fuel g xs w y f)
    ∙ line-tasks fuel g z w x.called x.answered q (named_tasks fuel g w xs))

pub tasks_follow : TasksFollow
unfolding serial serial_start
tasks_follow fuel g xs z e = follow_from fuel g xs (serial_start g) z e

-- ---- fuel: with more of it a body's run is the same, unless it was lost

abbrev More : Walked → Walked → Type 0
More u w = (u ≡ lost) ⊎ (w ≡ u)

pick_either : (b : Bool) {x y : Walked} → More x y → More (pick b x lost) (pick b y lost)
unfolding pick
pick_either true h = h
pick_either false h = inl refl

advance_more : (p : List ℕ) (j : ℕ) (r m : List ℕ) (go on : ℕ → List ℕ → List ℕ → Walked) → ((k : ℕ) (s n : List ℕ) → More (go k s n) (on k s n))
    → (f : Effect) → More (advance p j r m go f) (advance p j r m on f)
unfolding advance
advance_more p j r m go on h (Effect.Compute a x) = h (j + 1) (set r a x) m
advance_more p j r m go on h (Effect.Jump k) = h k r m
advance_more p j r m go on h (Effect.Load a x) =
    pick_either (ltb x (memory_words p)) (h (j + 1) (set r a (word m x)) m)
advance_more p j r m go on h (Effect.Save x y) = pick_either (ltb x (memory_words p)) (h (j + 1) r (set m x y))
advance_more p j r m go on h (Effect.EndTask k) = inr refl
advance_more p j r m go on h Effect.EndEvent = inr refl
advance_more p j r m go on h Effect.Unknown = inl refl

walk_more : (f f' : ℕ) → f ≤ f' → (p : List ℕ) (i j : ℕ) (r m : List ℕ) → More (walk f p i j r m) (walk f' p i j r m)
unfolding walk
walk_more zero f' l p i j r m = inl refl
walk_more (suc f) zero l p i j r m = absurd (not-suc-le-zero l)
walk_more (suc f) (suc f') l p i j r m =
    pick_either (ltb j (instructions p i))
    (advance_more p j r m (λ k s n. walk f p i k s n) (λ k s n. walk f' p i k s n) (λ k s n. walk_more f f' (le_of_suc-le-suc l) p i k s n) (effect_at p i j r))

end_more : (f f' : ℕ) → f ≤ f' → (p : List ℕ) (b : Body) (x : ℕ) (m : List ℕ) → More (walk_body f p b x m) (walk_body f' p b x m)
unfolding walk_body
end_more f f' l p b x m = walk_more f f' l p (body_number p b) 0 (first_registers x) m

task_more : (p : List ℕ) (z y : Serial) (u w : Walked) → More u w → after_task p z u ≡ Some y → after_task p z w ≡ Some y
unfolding after_task
task_more p z y u w (inl e) h = not_some (sym (ap (after_task p z) e) ∙ h)
task_more p z y u w (inr e) h = ap (after_task p z) e ∙ h

event_more : (z y : Serial) (rest : List Record) (u w : Walked) → More u w → after_event z rest u ≡ Some y → after_event z rest w ≡ Some y
unfolding after_event
event_more z y rest u w (inl e) h = not_some (sym (ap (after_event z rest) e) ∙ h)
event_more z y rest u w (inr e) h = ap (after_event z rest) e ∙ h

pick_more : (b : Bool) (u w : Option Serial) (y : Serial) → (u ≡ Some y → w ≡ Some y) → pick b u None ≡ Some y → pick b w None ≡ Some y
unfolding pick
pick_more true u w y h e = h e
pick_more false u w y h e = e

oldest_more : (f f' : ℕ) → f ≤ f' → (p : List ℕ) (z y : Serial) (e : ℕ) (rs : List Record) → serve_oldest f p z e rs ≡ Some y → serve_oldest f' p z e rs ≡ Some y
unfolding serve_oldest
oldest_more f f' l p z y e [] h = h
oldest_more f f' l p z y e (x ∷ rest) h =
    pick_more (eqb x.event e and eqb z.open_number 0) (after_event z rest (walk_body f p (Body.Event e) x.datum z.memory))
    (after_event z rest (walk_body f' p (Body.Event e) x.datum z.memory)) y
    (event_more z y rest _ _ (end_more f f' l p (Body.Event e) x.datum z.memory)) h

body_more : (f f' : ℕ) → f ≤ f' → (p : List ℕ) (z y : Serial) (b : Body) → run_body f p z b ≡ Some y → run_body f' p z b ≡ Some y
unfolding run_body
body_more f f' l p z y (Body.Task t) h =
    pick_more (eqb t z.task) (after_task p z (walk_body f p (Body.Task t) 0 z.memory)) (after_task p z (walk_body f' p (Body.Task t) 0 z.memory)) y
    (task_more p z y _ _ (end_more f f' l p (Body.Task t) 0 z.memory)) h
body_more f f' l p z y (Body.Event e) h = oldest_more f f' l p z y e z.records h

tell_more : (f f' : ℕ) → f ≤ f' → (g : Formatting) (z y : Serial) (c : Call) (a : Answer) → tell f g z c a ≡ Some y → tell f' g z c a ≡ Some y
unfolding tell
tell_more f f' l g z y c Answer.Done h = h
tell_more f f' l g z y c (Answer.Chosen b) h = h
tell_more f f' l g z y c Answer.Worked h = h
tell_more f f' l g z y c Answer.Stored h = h
tell_more f f' l g z y c (Answer.Committed b) h = body_more f f' l g.program z y b h
tell_more f f' l g z y c (Answer.Accepted d) h = h
tell_more f f' l g z y c (Answer.Refused r) h = h

serial_more : (f f' : ℕ) → f ≤ f' → (g : Formatting) (z y : Serial) (xs : List Line) → serial_from f g z xs ≡ Some y → serial_from f' g z xs ≡ Some y
unfolding serial_from
serial_more f f' l g z y [] e = e
serial_more f f' l g z y (x ∷ xs) e =
    let (w, q, h) = line_some f g z y x xs e in
    ap (λ (o : Option Serial). and_then o (λ u. serial_from f' g u xs)) (tell_more f f' l g z w x.called x.answered q)
    ∙ then_some w (λ u. serial_from f' g u xs)
    ∙ serial_more f f' l g w y xs h

pub serial_determined : SerialDetermined
unfolding serial
serial_determined f f' g y w xs e h =
    below_or f f' (λ l. some_same (sym (serial_more f f' (omega arith) g (serial_start g) y xs e) ∙ h))
    (λ l. some_same (sym e ∙ serial_more f' f l g (serial_start g) w xs h))
