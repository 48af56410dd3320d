-- Raising a line: a raise is the post of the one row's event, or no call at all; and what is posted is a word, as the table's words are.
-- Assumes nothing.
use Prim.Native.Nat.{ℕ, ◌^◌, ◌<◌}
use mathlib.Core.List.{List}
use mathlib.Core.Logic.{inl, inr, ◌≢◌}
use mathlib.Core.Path.{◌≡◌, refl, sym, ap, ◌∙◌}
use native.Mathlib.Omega.{arith}
use borrow.Author.Tests.{eq-eqb, ne_eqb, lt-ltb, le-ltb}
use Rattle.model.proofs.TestLaws.{pick_case, pick_true, pick-false, below_or}
use Rattle.model.specs.Burst.{single}
use Rattle.model.specs.Calls.{call, after_calls}
use Rattle.model.specs.Claims.{TypedWords}
use Rattle.model.specs.Device.{out, judged, post}
use Rattle.model.specs.Store.{none, settled}
use Rattle.model.specs.declared.Answer.{Answer}
use Rattle.model.specs.Types.{Checked, Err, None, Ok, Some}
use Rattle.model.specs.declared.Device.{Device}
use Rattle.model.specs.declared.Refusal.{Refusal}
use Rattle.lines.proofs.GoodLaws.{accepted_is_good}
use Rattle.lines.proofs.LineLaws.{covered_counts, row-found, row_missing}
use Rattle.lines.specs.Claims.{Named, Covers, RaisePosts, RaisePostsNothing, RaiseChecksFirst, RaiseIsItsCalls}
use Rattle.lines.specs.Lines.{Posting, event, rows, levels, no_event, check, row_of, event_of, posting_of, posting, raise_of, raise, posting_calls, raise_calls}

-- ---- what is posted

module _ (t : List ℕ) (n x : ℕ) where
  -- a row that covers the level is the one that is found
  event_is : (i : ℕ) → check t ≡ Ok tt → Covers t n x i → x < levels → event_of t n x ≡ event t i
  unfolding event_of
  event_is i e c inside =
      below_or (row_of t n x) (rows t)
      (λ l.
      let (j, _, only) = (accepted_is_good t e).in_one_row n x (i, c.there, c.line_is) inside in
      let same : row_of t n x ≡ i = only (row_of t n x) (row-found t n x _ refl l) ∙ sym (only i c) in
      pick_true _ _ (lt-ltb (row_of t n x) (rows t) l) ∙ ap (λ (k : ℕ). event t k) same)
      (λ l. let gap = row_missing t n x l in let some = covered_counts t n x (i, c) in absurd (omega arith))

  no_event_lem : (Named t n → ⊥) → event_of t n x ≡ no_event
  unfolding event_of
  no_event_lem unnamed =
      below_or (row_of t n x) (rows t)
      (λ l. let c = row-found t n x _ refl l in absurd (unnamed (row_of t n x, l, c.line_is)))
      (λ l. pick-false _ _ (le-ltb (row_of t n x) (rows t) l))

  posts : (e : ℕ) → check t ≡ Ok tt → event_of t n x ≡ e → e ≢ no_event → posting t n x ≡ Ok (Some e)
  unfolding posting posting_of
  posts e accepted is some = rw (accepted, is) (pick-false _ _ (ne_eqb e no_event some))

  posts_nothing : check t ≡ Ok tt → event_of t n x ≡ no_event → posting t n x ≡ Ok None
  unfolding posting posting_of
  posts_nothing accepted is = rw (accepted, is) (pick_true _ _ (eq-eqb no_event no_event refl))

  posts-refused : (r : Refusal) → check t ≡ Err r → posting t n x ≡ Err r
  unfolding posting posting_of
  posts-refused r refused = rw refused

-- ---- what a raise does

pub raise-posts : RaisePosts
unfolding raise raise_of
raise-posts p s d t n x i accepted inside c some = rw (posts t n x (event t i) accepted (event_is t n x i accepted c inside) some)

pub raise_posts_nothing : RaisePostsNothing
unfolding raise raise_of
raise_posts_nothing p s d t n x accepted inside (inl unnamed) = rw (posts_nothing t n x accepted (no_event_lem t n x unnamed))
raise_posts_nothing p s d t n x accepted inside (inr (i, c, silent)) =
    rw (posts_nothing t n x accepted (event_is t n x i accepted c inside ∙ silent))

pub raise_checks_first : RaiseChecksFirst
unfolding raise raise_of
raise_checks_first p s d t n x r refused = rw (posts-refused t n x r refused)

judged_stores_nothing : (c : Checked) (d e : Device) (a : Answer) (s : List ℕ) → settled s (judged c d (out none e a)).write ≡ s
unfolding judged settled
judged_stores_nothing (Ok _) d e a s = refl
judged_stores_nothing (Err r) d e a s = refl

post_stores_nothing : (p s : List ℕ) (d : Device) (e x : ℕ) → settled s (post p s d (single e x)).write ≡ s
unfolding post
post_stores_nothing p s d e x = judged_stores_nothing _ d _ _ s

posting_is_its_calls : (p s : List ℕ) (d : Device) (x : ℕ) (q : Posting)
    → after_calls p s d (posting_calls x q) ≡ record { store = s; device = (raise_of p s d x q).device }
unfolding after_calls posting_calls raise_of call
posting_is_its_calls p s d x (Err r) = refl
posting_is_its_calls p s d x (Ok None) = refl
posting_is_its_calls p s d x (Ok (Some e)) =
    ap (λ (z : List ℕ). record { store = z; device = (post p s d (single e x)).device }) (post_stores_nothing p s d e x)

pub raise_is_its_calls : RaiseIsItsCalls
unfolding raise raise_calls
raise_is_its_calls p s d t n x = posting_is_its_calls p s d x (posting t n x)

-- ---- words

abbrev pub TypedPosting : Posting → Type 0
TypedPosting (Err r) = Unit {0}
TypedPosting (Ok None) = Unit {0}
TypedPosting (Ok (Some e)) = e < 2 ^ 16

event_typed : (t : List ℕ) (n x : ℕ) → TypedWords t → event_of t n x < 2 ^ 16
unfolding event_of no_event
event_typed t n x ws = pick_case (λ (e : ℕ). e < 2 ^ 16) (λ _. ws _) (λ _. omega arith)

typed : (c : Checked) (e : ℕ) → e < 2 ^ 16 → TypedPosting (posting_of c e)
unfolding posting_of
typed (Err r) e l = tt
typed (Ok _) e l = pick_case TypedPosting (λ _. tt) (λ _. l)

pub posting_typed : (t : List ℕ) (n x : ℕ) → TypedWords t → TypedPosting (posting t n x)
unfolding posting
posting_typed t n x ws = typed (check t) (event_of t n x) (event_typed t n x ws)
