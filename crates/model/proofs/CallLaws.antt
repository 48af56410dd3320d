-- Laws of specs/Calls.antt: lists of calls behind each other; a run is its steps, the totals are counts, recovery is a boot and steps.
-- Assumes nothing.
use Prim.Native.Nat.{ℕ, zero, suc, ◌+◌, ◌-◌, ◌^◌, ◌<◌, min}
use mathlib.Core.Path.{◌≡◌, refl, sym, ap, ◌∙◌, subst}
use mathlib.Core.Logic.{◌≢◌}
use mathlib.Core.Bool.{Bool, true, false}
use mathlib.Core.List.{List, [], ◌∷◌, ◌++◌}
use native.Mathlib.Nat.{not-suc-le-zero, le_of_suc-le-suc, add-zero}
use native.Mathlib.Omega.{arith}
use borrow.Author.Tests.{eqb-true, eqb-false}
use Rattle.model.proofs.TestLaws.{pick_case, pick-false, impossible}
use Rattle.model.specs.Calls.{Call, Boot, Now, call, history, after_calls, steps, count_by, unless_refused, is_refusal, more_by, one_if, is_commit, is_accept, accepted_events, is_store, no_totals, counted, totals_after, events_accepted, stores_made, RunOutcome, run_from, run, recovered, refused, unfinished, finish, recovery}
use Rattle.model.specs.Claims.{EndedSo, RunIsSteps, TotalsAreCounts, ByCalls, RecoveryByCalls}
use Rattle.model.specs.Device.{Outcome, out, judged, off, begun_of, taken_up, boot_check, boot, cut, post_check, post, step}
use Rattle.model.specs.Store.{view, none, settled}
use Rattle.model.specs.Test.{pick}
use Rattle.model.specs.Types.{Answer, Checked, Device, Err, Handler, Ok, Record, Refusal, Totals}

-- ---- unless_refused: one law for every proof about an answer

pub answer_case {ℓ} : {A : Type ℓ} (P : A → Type 0) (a : Answer) (stop : Refusal → A) (rest : A)
    → ((f : Refusal) → a ≡ Answer.Refused f → P (stop f)) → (is_refusal a ≡ false → P rest) → P (unless_refused a stop rest)
unfolding unless_refused is_refusal
answer_case P Answer.Done stop rest s g = g refl
answer_case P (Answer.Chosen b) stop rest s g = g refl
answer_case P Answer.Worked stop rest s g = g refl
answer_case P Answer.Stored stop rest s g = g refl
answer_case P (Answer.Committed b) stop rest s g = g refl
answer_case P (Answer.Accepted d) stop rest s g = g refl
answer_case P (Answer.Refused r) stop rest s g = s r refl

-- ---- after_calls

pub after_append : (p s : List ℕ) (d : Device) (cs ds : List Call)
    → after_calls p s d (cs ++ ds) ≡ after_calls p (after_calls p s d cs).store (after_calls p s d cs).device ds
unfolding after_calls
after_append p s d [] ds = refl
after_append p s d (c ∷ cs) ds = after_append p (settled s (call p s d c).write) (call p s d c).device cs ds

pub totals-append : (p s : List ℕ) (d : Device) (cs ds : List Call) (t : Totals)
    → totals_after p s d (cs ++ ds) t ≡ totals_after p (after_calls p s d cs).store (after_calls p s d cs).device ds (totals_after p s d cs t)
unfolding after_calls totals_after
totals-append p s d [] ds t = refl
totals-append p s d (c ∷ cs) ds t =
    let o = call p s d c in
    totals-append p (settled s o.write) o.device cs ds (counted t d.handler o)

-- an outcome that commits and accepts nothing and makes no store adds nothing to the totals
none_more : (x : ℕ) → more_by x 0 ≡ x
unfolding more_by
none_more x = omega arith

pub adds_nothing : (t : Totals) (h : Handler) (o : Outcome) → is_commit o.answer ≡ false → is_accept o.answer ≡ false → is_store o.write ≡ false → counted t h o ≡ t
unfolding counted accepted_events one_if pick
adds_nothing t h o c a w = simp (c, a, w, none_more)

-- boot, cut and post
counts_nothing : (t : Totals) (h : Handler) (d e : Device) (x : Checked) → counted t h (judged x d (out none e Answer.Done)) ≡ t
unfolding judged is_commit is_accept is_store
counts_nothing t h d e (Ok _) = adds_nothing t h _ refl refl refl
counts_nothing t h d e (Err r) = adds_nothing t h _ refl refl refl

pub boot_counts_nothing : (p s : List ℕ) (d : Device) (t : Totals) → counted t d.handler (boot p s d) ≡ t
unfolding boot
boot_counts_nothing p s d t = counts_nothing t d.handler d (taken_up (view s) (begun_of (view s))) (boot_check p s d)

pub cut_counts_nothing : (h : Handler) (t : Totals) → counted t h cut ≡ t
unfolding cut is_commit is_accept is_store
cut_counts_nothing h t = adds_nothing t h cut refl refl refl

pub post_counts_nothing : (p s : List ℕ) (d : Device) (rs : List Record) (t : Totals) → counted t d.handler (post p s d rs) ≡ t
unfolding post
post_counts_nothing p s d rs t = counts_nothing t d.handler d _ (post_check p s d rs)

-- ---- a run is its steps

-- a run of k steps more, n steps made
record Made (p : List ℕ) (k n : ℕ) (s : List ℕ) (d : Device) (t : Totals) (r : RunOutcome) : Type 0 where
  made : ℕ
  steps_is : r.steps ≡ n + made
  store : r.store ≡ (after_calls p s d (steps made)).store
  device : r.device ≡ (after_calls p s d (steps made)).device
  totals : r.totals ≡ totals_after p s d (steps made) t
  unrefused : count_by is_refusal (history p s d (steps made)) ≡ 0
  ended : EndedSo p (n + k) r r.ended

run-made : (p : List ℕ) (k n : ℕ) (s : List ℕ) (d : Device) (t : Totals) → Made p k n s d t (run_from p k n s d t)
unfolding run_from steps after_calls history totals_after count_by call
run-made p zero n s d t =
    record {
      made = 0;
      steps_is = sym (add-zero n);
      store = refl;
      device = refl;
      totals = refl;
      unrefused = refl;
      ended = sym (add-zero n);
    }
run-made p (suc k) n s d t =
    let o = step p s d in
    answer_case (Made p (suc k) n s d t) o.answer (λ f. record { steps = n; ended = Err f; store = s; device = d; totals = t })
    (run_from p k (n + 1) (settled s o.write) o.device (counted t d.handler o))
    (λ f e.
    record {
      made = 0;
      steps_is = sym (add-zero n);
      store = refl;
      device = refl;
      totals = refl;
      unrefused = refl;
      ended = (omega arith, e);
    })
    (λ e.
    let h = run-made p k (n + 1) (settled s o.write) o.device (counted t d.handler o) in
    let budget : n + 1 + k ≡ n + suc k = omega arith in
    record {
      made = suc h.made;
      steps_is = omega (arith, h.steps_is);
      store = h.store;
      device = h.device;
      totals = h.totals;
      unrefused = pick-false _ _ e ∙ h.unrefused;
      ended = rw budget at h.ended;
    })

pub run_is_steps : RunIsSteps
unfolding run
run_is_steps p budget s d t =
    let h = run-made p budget 0 s d t in
    let r = run_from p budget 0 s d t in
    let made_is : h.made ≡ r.steps = omega (arith, h.steps_is) in
    let whole : 0 + budget ≡ budget = omega arith in
    record {
      store = rw made_is at h.store;
      device = rw made_is at h.device;
      totals = rw made_is at h.totals;
      unrefused = rw made_is at h.unrefused;
      ended = rw whole at h.ended;
    }

-- ---- the totals are counts

abbrev largest : ℕ
largest = 2 ^ 32 - 1

more_min : (a n : ℕ) {x y : ℕ} → y ≡ more_by x n → x ≡ min a largest → y ≡ min (a + n) largest
unfolding more_by
more_min a n q e = omega arith

-- what calls add up to, each by the device before it and its outcome
tally : (Device → Outcome → ℕ) → List ℕ → List ℕ → Device → List Call → ℕ
tally f p s d [] = 0
tally f p s d (c ∷ cs) =
    let o = call p s d c in
    f d o + tally f p (settled s o.write) o.device cs

one_if_lem : (b : Bool) (n : ℕ) → one_if b + n ≡ pick b (suc n) n
unfolding one_if pick
one_if_lem true n = omega arith
one_if_lem false n = omega arith

count_tally : (f : Answer → Bool) (p s : List ℕ) (d : Device) (cs : List Call) → tally (λ d o. one_if (f o.answer)) p s d cs ≡ count_by f (history p s d cs)
unfolding tally count_by history
count_tally f p s d [] = refl
count_tally f p s d (c ∷ cs) =
    let o = call p s d c in
    one_if_lem (f o.answer) _ ∙ ap (λ (n : ℕ). pick (f o.answer) (suc n) n) (count_tally f p (settled s o.write) o.device cs)

accepted_tally : (p s : List ℕ) (d : Device) (cs : List Call) → tally (λ d o. accepted_events d.handler o.answer) p s d cs ≡ events_accepted p s d cs
unfolding tally events_accepted
accepted_tally p s d [] = refl
accepted_tally p s d (c ∷ cs) =
    let o = call p s d c in
    ap (λ (n : ℕ). accepted_events d.handler o.answer + n) (accepted_tally p (settled s o.write) o.device cs)

stores_tally : (p s : List ℕ) (d : Device) (cs : List Call) → tally (λ d o. one_if (is_store o.write)) p s d cs ≡ stores_made p s d cs
unfolding tally stores_made
stores_tally p s d [] = refl
stores_tally p s d (c ∷ cs) =
    let o = call p s d c in
    one_if_lem (is_store o.write) _ ∙ ap (λ (n : ℕ). pick (is_store o.write) (suc n) n) (stores_tally p (settled s o.write) o.device cs)

-- the field g of the totals is what calls add up to by f
module _ (g : Totals → ℕ) (f : Device → Outcome → ℕ) (is : (t : Totals) (d : Device) (o : Outcome) → g (counted t d.handler o) ≡ more_by (g t) (f d o)) where
  total_from : (p s : List ℕ) (d : Device) (cs : List Call) (t : Totals) (a : ℕ) → g t ≡ min a largest
      → g (totals_after p s d cs t) ≡ min (a + tally f p s d cs) largest
  unfolding totals_after tally
  total_from p s d [] t a e = e ∙ ap (λ (n : ℕ). min n largest) (sym (add-zero a))
  total_from p s d (c ∷ cs) t a e =
      let o = call p s d c in
      let rest = tally f p (settled s o.write) o.device cs in
      let grouped : a + f d o + rest ≡ a + (f d o + rest) = omega arith in
      total_from p (settled s o.write) o.device cs (counted t d.handler o) (a + f d o) (more_min a (f d o) (is t d o) e)
      ∙ ap (λ (n : ℕ). min n largest) grouped

  total_is : (p s : List ℕ) (d : Device) (cs : List Call) → g no_totals ≡ 0 → g (totals_after p s d cs no_totals) ≡ min (tally f p s d cs) largest
  total_is p s d cs e =
      let none : 0 + tally f p s d cs ≡ tally f p s d cs = omega arith in
      total_from p s d cs no_totals 0 e ∙ ap (λ (n : ℕ). min n largest) none

pub totals_are_counts : TotalsAreCounts
unfolding counted
totals_are_counts p s d cs =
    record {
      committed = total_is (λ t. t.committed) _ (λ t d o. refl) p s d cs refl ∙ ap (λ (n : ℕ). min n largest) (count_tally is_commit p s d cs);
      accepted = total_is (λ t. t.accepted) _ (λ t d o. refl) p s d cs refl ∙ ap (λ (n : ℕ). min n largest) (accepted_tally p s d cs);
      stores = total_is (λ t. t.stores) _ (λ t d o. refl) p s d cs refl ∙ ap (λ (n : ℕ). min n largest) (stores_tally p s d cs);
    }

-- ---- recovery is a boot and steps

-- i steps made, it ended after n
record Finished (p : List ℕ) (i n : ℕ) (s : List ℕ) (d : Device) (store : List ℕ) : Type 0 where
  made : ℕ
  made_is : i + made ≡ n
  leaves : (after_calls p s d (steps made)).store ≡ store
  ended : (view store).phase ≡ 0
  goes_on : (m : ℕ) → m < made → (view (after_calls p s d (steps m)).store).phase ≢ 0

module _ (p : List ℕ) (i n : ℕ) (s : List ℕ) (d : Device) (store : List ℕ) where
  -- nothing was left to do
  at_once : (view s).phase ≡ 0 → recovered i s ≡ recovered n store → Finished p i n s d store
  unfolding steps after_calls
  at_once e q =
      let same : s ≡ store = cc in
      let count : i ≡ n = cc in
      record {
        made = 0;
        made_is = omega arith;
        leaves = same;
        ended = subst (λ (x : List ℕ). (view x).phase ≡ 0) same e;
        goes_on = λ m h. absurd (not-suc-le-zero h);
      }

  one_more : (view s).phase ≢ 0 → Finished p (i + 1) n (settled s (step p s d).write) (step p s d).device store → Finished p i n s d store
  unfolding steps after_calls call
  one_more e h = record { made = suc h.made; made_is = omega (arith, h.made_is); leaves = h.leaves; ended = h.ended; goes_on = on }
    where
      on : (m : ℕ) → m < suc h.made → (view (after_calls p s d (steps m)).store).phase ≢ 0
      on zero l = e
      on (suc m) l = h.goes_on m (le_of_suc-le-suc l)

never_refused {ℓ} : {X : Type ℓ} {f : Refusal} {n : ℕ} {store : List ℕ} → refused f ≡ recovered n store → X
never_refused e = impossible (cc)

never_unfinished {ℓ} : {X : Type ℓ} {n : ℕ} {store : List ℕ} → unfinished ≡ recovered n store → X
never_unfinished e = impossible (cc)

finished : (p : List ℕ) (k i n : ℕ) (s : List ℕ) (d : Device) (store : List ℕ) → finish p k i s d ≡ recovered n store → Finished p i n s d store
unfolding finish
finished p zero i n s d store =
    pick_case (λ x. x ≡ recovered n store → Finished p i n s d store) (λ b e. at_once p i n s d store (eqb-true _ _ b) e) (λ b e. never_unfinished e)
finished p (suc k) i n s d store =
    let o = step p s d in
    pick_case (λ x. x ≡ recovered n store → Finished p i n s d store) (λ b e. at_once p i n s d store (eqb-true _ _ b) e)
    (λ b.
    answer_case (λ x. x ≡ recovered n store → Finished p i n s d store) o.answer refused (finish p k (i + 1) (settled s o.write) o.device)
    (λ f a e. never_refused e)
    (λ a e. one_more p i n s d store (eqb-false _ _ b) (finished p k (i + 1) n (settled s o.write) o.device store e)))

boot_stores_nothing : (p s : List ℕ) (d : Device) → (boot p s d).write ≡ none
unfolding boot judged
boot_stores_nothing p s d = go (boot_check p s d)
  where
    go : (x : Checked) → (judged x d (out none (taken_up (view s) (begun_of (view s))) Answer.Done)).write ≡ none
    go (Ok _) = refl
    go (Err r) = refl

-- after a boot, whatever it answers
pub booted : (p s : List ℕ) (d : Device) (cs : List Call) → after_calls p s d (Boot ∷ cs) ≡ after_calls p s (boot p s d).device cs
unfolding after_calls call settled
booted p s d cs = rw (boot_stores_nothing p s d)

pub recovery_by_calls : RecoveryByCalls
unfolding recovery cut
recovery_by_calls p s k n store =
    let o = boot p s off in
    answer_case (λ x. x ≡ recovered n store → ByCalls p s n store) o.answer refused (finish p k 0 s o.device)
    (λ f a e. never_refused e)
    (λ a e.
    let h = finished p k 0 n s o.device store e in
    let made_is : h.made ≡ n = omega (arith, h.made_is) in
    record {
      leaves = ap (λ (x : Now). x.store) (booted p s off (steps n)) ∙ (rw made_is at h.leaves);
      ended = h.ended;
      goes_on = λ m l. rw (booted p s off (steps m)) (h.goes_on m (omega (arith, made_is)));
    })
