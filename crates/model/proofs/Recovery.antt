-- Uncut recovery where the invariant holds: it isn't refused, takes just the steps that document 01 says, and leaves what the serial
-- run has. Assumes nothing.
use Prim.Native.Nat.{ℕ, zero, suc, ◌+◌, ◌≤◌}
use mathlib.Core.Path.{◌≡◌, refl, sym, ap, ◌∙◌, subst}
use mathlib.Core.Logic.{inl, inr, ◌≢◌}
use mathlib.Core.Bool.{true, false}
use mathlib.Core.List.{List}
use native.Mathlib.Nat.{not-suc-le-zero, add-zero, zero-add}
use native.Mathlib.Omega.{arith}
use borrow.Author.Tests.{ne_eqb}
use lib.Dec.{eqb}
use lib.ListN.{length}
use Rattle.model.proofs.Invariant.{StillAt, CommitAt, Placed, Resumes, On, Inv}
use Rattle.model.proofs.Kept.{begun-committing, lasting_in, task_last_is, event_last_is, Remaining, LeavesStores, leaves-stores, unmarked_of, unchanged_is}
use Rattle.model.proofs.KeptWords.{InvWords, KeptWords, when_on, step_kept, view-at, look_is, boot_is}
use Rattle.model.proofs.KeptCalls.{held_of, resumes_of, off_inv, on_inv, held_still, posts_nothing, resumes_still}
use Rattle.model.proofs.StoreLaws.{view_at}
use Rattle.model.proofs.TestLaws.{pick_true, pick-false, must-true}
use Rattle.model.specs.Accepted.{Sound}
use Rattle.model.specs.Calls.{Step, unless_refused, recovered, refused, finish, recovery}
use Rattle.model.specs.Demand3.{Left, recovery_steps, Recovers}
use Rattle.model.specs.Device.{Outcome, out, judged, fresh, off, turned_on, task_last_stores, event_last_stores, last_stores, begun_of, taken_up, boot, cut, copy_step, place_step, next_step, step}
use Rattle.model.specs.Program.{memory_words}
use Rattle.model.specs.Serial.{Serial, given, tell, unchanged, with_records, after_stored}
use Rattle.model.specs.Store.{Store, view, Write, none, settled, waiting}
use Rattle.model.specs.Test.{must}
use Rattle.model.specs.Types.{Answer, Checked, Device, Free, None, Resting, Some}

pub waiting_is : (p : List ℕ) (v : Store) (d : Device) (z : Serial) (k : ℕ) → Inv p v d z k → waiting v ≡ z.records
unfolding waiting
waiting_is p v d z k i = (held_of i).waits.same

-- in phase 0 the store has what the serial run has
module _ (p : List ℕ) (v : Store) (d : Device) (z : Serial) (k : ℕ) (i : Inv p v d z k) (e : v.phase ≡ 0) where
  still_at : Resumes p v z → StillAt v z
  still_at (inl (s, g)) = s
  still_at (inr (m, inl t)) = absurd (omega (arith, t.phase_is))
  still_at (inr (m, inr t)) = absurd (omega (arith, t.phase_is))

  left_at : Left v z
  left_at =
      let s = still_at (resumes_of p v d z k i) in
      record { memory = s.memory_is; task = s.task_is; open_number = s.open_is; records = waiting_is p v d z k i }

-- ---- one step of recovery

module _ (p : List ℕ) (sound : Sound p) (l q : ℕ) (s : List ℕ) (d : Device) (z : Serial) (k : ℕ) (i : InvWords p l q s d z k) where
  abbrev v : Store
  v = view_at (memory_words p) l q s

  step_is : d.on ≡ true → step p s d ≡ next_step p v d d.handler
  unfolding step judged
  step_is on =
      ap (λ (x : Checked). judged x d (next_step p (view s) d d.handler)) (look_is p sound l q s d z k i ∙ must-true _ on)
      ∙ ap (λ (u : Store). next_step p u d d.handler) (view-at p sound l q s d z k i)

  commit_is : d.on ≡ true → d.handler ≡ Resting → (c : ℕ) → d.place ≡ Free c → eqb v.phase 0 ≡ false → step p s d ≡ copy_step p v d c
  unfolding next_step place_step
  commit_is on rest c at busy =
      step_is on
      ∙ ap (next_step p v d) rest
      ∙ ap (place_step p v d) at
      ∙ pick-false _ _ busy

  -- nothing is left to store: the phase is 0
  all_done : (c : ℕ) → d.on ≡ true → d.place ≡ Free c → Remaining v c 0 → v.phase ≡ 0
  all_done c on at (inl n) = n.0
  all_done c on at (inr n) = by_commit (rw at at (when_on p sound l q s d z k i on).placed) n
    where
      by_commit : Placed p v d z k (Free c) → (v.phase ≢ 0) × (0 + c ≡ v.count + length (last_stores v)) → v.phase ≡ 0
      by_commit (inl (s, e)) n = s.phase_is
      by_commit (inr (m, inl t)) n = absurd (omega (arith, lasting_in t.lasting, ap length (task_last_is v t.phase_is)))
      by_commit (inr (m, inr t)) n = absurd (omega (arith, lasting_in t.lasting, ap length (event_last_is v t.phase_is)))

  -- something is left: a commit is at work, and makes its next store
  next-leaves : (c r : ℕ) → d.on ≡ true → d.handler ≡ Resting → d.place ≡ Free c → Remaining v c (suc r) → LeavesStores v (step p s d) r
  next-leaves c r on rest at n = by_commit (rw at at j.placed) n
    where
      j : On p v d z k
      j = when_on p sound l q s d z k i on

      busy : (m : ℕ) → v.phase ≡ m → eqb m 0 ≡ false → eqb v.phase 0 ≡ false
      busy m e f = ap (λ (x : ℕ). eqb x 0) e ∙ f

      by_commit : Placed p v d z k (Free c) → Remaining v c (suc r) → LeavesStores v (step p s d) r
      by_commit (inl (s, e)) (inl n) = absurd (omega arith)
      by_commit (inl (s, e)) (inr n) = absurd (n.0 s.phase_is)
      by_commit (inr (m, inl t)) n = rw (commit_is on rest c at (busy 1 t.phase_is refl)) (leaves-stores p v d rest z k j c m (inl t) r n)
      by_commit (inr (m, inr t)) n = rw (commit_is on rest c at (busy 2 t.phase_is refl)) (leaves-stores p v d rest z k j c m (inr t) r n)

  some_left : (c r : ℕ) → Remaining v c (suc r) → eqb v.phase 0 ≡ false
  some_left c r (inl n) = absurd (omega arith)
  some_left c r (inr n) = ne_eqb _ _ n.0

  -- a step that stored leaves the serial run where it was
  stored_same : (h : KeptWords p l q s z k Step (step p s d)) → d.on ≡ true → d.handler ≡ Resting → (step p s d).answer ≡ Answer.Stored → h.serial ≡ z
  unfolding tell after_stored
  stored_same h on rest e =
      let unmarked = unmarked_of (when_on p sound l q s d z k i on) rest in
      let t : tell (suc k) (given p l q) z Step Answer.Stored ≡ Some h.serial = rw e at (h.tells (suc k) (omega arith)) in
      let same : Some z ≡ Some h.serial = sym (pick-false _ _ unmarked ∙ ap Some (unchanged_is z unmarked)) ∙ t in
      cc

-- ---- recovery

pub record Finishes (p s : List ℕ) (d : Device) (z : Serial) (fuel n r : ℕ) : Type 0 where
  pub store : List ℕ
  pub ends : finish p fuel n s d ≡ recovered (n + r) store
  pub left : Left (view store) z

finish-none : (p : List ℕ) (fuel n : ℕ) (s : List ℕ) (d : Device) → (view s).phase ≡ 0 → finish p fuel n s d ≡ recovered n s
unfolding finish
finish-none p zero n s d e = pick_true _ _ (ap (λ (x : ℕ). eqb x 0) e)
finish-none p (suc fuel) n s d e = pick_true _ _ (ap (λ (x : ℕ). eqb x 0) e)

finish-step : (p : List ℕ) (fuel n : ℕ) (s : List ℕ) (d : Device) → eqb (view s).phase 0 ≡ false → (step p s d).answer ≡ Answer.Stored
    → finish p (suc fuel) n s d ≡ finish p fuel (n + 1) (settled s (step p s d).write) (step p s d).device
unfolding finish unless_refused
finish-step p fuel n s d e f =
    pick-false _ _ e
    ∙ ap (λ (a : Answer). unless_refused a refused (finish p fuel (n + 1) (settled s (step p s d).write) (step p s d).device)) f

finishes : (p : List ℕ) (sound : Sound p) (l q r fuel n : ℕ) (s : List ℕ) (d : Device) (z : Serial) (k c : ℕ) → InvWords p l q s d z k
    → d.on ≡ true → d.handler ≡ Resting → d.place ≡ Free c → Remaining (view_at (memory_words p) l q s) c r → r ≤ fuel
    → Finishes p s d z fuel n r
finishes p sound l q zero fuel n s d z k c i on rest at m h =
    let done = all_done p sound l q s d z k i c on at m in
    record {
      store = s;
      ends = finish-none p fuel n s d done ∙ ap (λ (x : ℕ). recovered x s) (sym (add-zero n));
      left = rw (view-at p sound l q s d z k i) (left_at p (view_at (memory_words p) l q s) d z k i.inv done);
    }
finishes p sound l q (suc r) zero n s d z k c i on rest at m h = absurd (not-suc-le-zero h)
finishes p sound l q (suc r) (suc fuel) n s d z k c i on rest at m h =
    let t = next-leaves p sound l q s d z k i c r on rest at m in
    let w = step_kept p sound l q s d z k i in
    let same = stored_same p sound l q s d z k i w on rest t.answer_is in
    let rest' =
    finishes p sound l q r fuel (n + 1) (settled s (step p s d).write) (step p s d).device z (suc k) t.place (rw same at w.inv) t.on t.rests
    t.place_is (subst (λ (u : Store). Remaining u t.place r) (sym w.parts) t.remaining) (omega arith) in
    record {
      store = rest'.store;
      ends =
          finish-step p fuel n s d (some_left p sound l q s d z k i c r m) t.answer_is
          ∙ rest'.ends
          ∙ ap (λ (x : ℕ). recovered x rest'.store) (let e : n + 1 + r ≡ n + suc r = omega arith in e);
      left = rest'.left;
    }

-- the stores that a boot finds unmade
steps_remain : (p : List ℕ) (v : Store) (z : Serial) → Resumes p v z → Remaining v 0 (recovery_steps v)
unfolding recovery_steps task_last_stores event_last_stores
steps_remain p v z (inl (s, g)) =
    inl (
      s.phase_is,
      pick-false _ _ (ap (λ (x : ℕ). eqb x 1) s.phase_is) ∙ pick-false _ _ (ap (λ (x : ℕ). eqb x 2) s.phase_is),
    )
steps_remain p v z (inr (m, inl t)) =
    inr (
      omega (arith, t.phase_is),
      ap (λ (x : ℕ). x + 0) (pick_true _ _ (ap (λ (x : ℕ). eqb x 1) t.phase_is))
          ∙ add-zero (v.count + 4)
          ∙ sym (ap (λ (ws : List Write). v.count + length ws) (task_last_is v t.phase_is)),
    )
steps_remain p v z (inr (m, inr t)) =
    inr (
      omega (arith, t.phase_is),
      ap (λ (x : ℕ). x + 0)
          (pick-false _ _ (ap (λ (x : ℕ). eqb x 1) t.phase_is) ∙ pick_true _ _ (ap (λ (x : ℕ). eqb x 2) t.phase_is))
          ∙ add-zero (v.count + 3)
          ∙ sym (ap (λ (ws : List Write). v.count + length ws) (event_last_is v t.phase_is)),
    )

module _ (p : List ℕ) (sound : Sound p) (l q : ℕ) (s : List ℕ) (d : Device) (z : Serial) (k : ℕ) (i : InvWords p l q s d z k) where
  abbrev now : Store
  now = view_at (memory_words p) l q s

  -- the device after a cut, and after a boot
  abbrev booted : Device
  booted = taken_up now (begun_of now)

  boot-answers : boot p s off ≡ out none booted Answer.Done
  unfolding boot judged fresh must
  boot-answers =
      let off-words : InvWords p l q s off (unchanged z) (suc k) = record { sized = i.sized; contents = i.contents; inv = off_inv p now d z k i.inv } in
      ap (λ (x : Checked). judged x off (out none (taken_up (view s) (begun_of (view s))) Answer.Done)) (boot_is p sound l q s off (unchanged z) (suc k) off-words)
      ∙ ap (λ (v : Store). out none (taken_up v (begun_of v)) Answer.Done) (view-at p sound l q s d z k i)

  -- a cut leaves the serial run's memory, task, open number and records
  left_alone : (v : Store) → Left v (unchanged z) → Left v z
  unfolding unchanged with_records
  left_alone v h = record { memory = h.memory; task = h.task; open_number = h.open_number; records = h.records }

  -- in phases 1 and 2 no body is taken up
  commit_finishes : (fuel : ℕ) → recovery_steps now ≤ fuel → CommitAt p now z 0 → begun_of now ≡ None → Finishes p s booted z fuel 0 (recovery_steps now)
  unfolding taken_up fresh
  commit_finishes fuel h commit none_begun =
      let is : turned_on ≡ booted = ap (taken_up now) (sym none_begun) in
      let resumes = resumes_still p now d z k (inr commit) in
      let words : InvWords p l q s booted (unchanged z) (suc k) =
      record {
        sized = i.sized;
        contents = i.contents;
        inv = inr (on_inv p now d (unchanged z) k sound (held_still p now d z k (held_of i.inv)) (posts_nothing p now d z k) resumes);
      } in
      let f =
      finishes p sound l q (recovery_steps now) fuel 0 s turned_on (unchanged z) (suc k) 0
      (subst (λ (e : Device). InvWords p l q s e (unchanged z) (suc k)) (sym is) words) refl refl refl (steps_remain p now (unchanged z) resumes) h in
      subst (λ (e : Device). Finishes p s e z fuel 0 (recovery_steps now)) is
      (record { store = f.store; ends = f.ends; left = left_alone (view f.store) f.left })

  boot_finishes : (fuel : ℕ) → recovery_steps now ≤ fuel → Resumes p now z → Finishes p s booted z fuel 0 (recovery_steps now)
  boot_finishes fuel h (inl (still, g)) =
      let here : (view s).phase ≡ 0 = ap (λ (v : Store). v.phase) (view-at p sound l q s d z k i) ∙ still.phase_is in
      let no_steps : recovery_steps now ≡ 0 = none_remain (steps_remain p now z (inl (still, g))) in
      rw no_steps
      (record {
        store = s;
        ends = finish-none p fuel 0 s booted here;
        left = rw (view-at p sound l q s d z k i) (left_at p now d z k i.inv still.phase_is);
      })
    where
      none_remain : Remaining now 0 (recovery_steps now) → recovery_steps now ≡ 0
      none_remain (inl n) = n.1
      none_remain (inr n) = absurd (n.0 still.phase_is)
  boot_finishes fuel h (inr (m, inl t)) = commit_finishes fuel h (m, inl t) (begun-committing now 1 t.phase_is refl)
  boot_finishes fuel h (inr (m, inr t)) = commit_finishes fuel h (m, inr t) (begun-committing now 2 t.phase_is refl)

  pub recovers : (fuel : ℕ) → recovery_steps (view s) ≤ fuel → Recovers p s z fuel
  unfolding recovery cut unless_refused
  recovers fuel h =
      let same = view-at p sound l q s d z k i in
      let f = boot_finishes fuel (subst (λ (u : Store). recovery_steps u ≤ fuel) same h) (resumes_of p now d z k i.inv) in
      record {
        store = f.store;
        ends =
            ap (λ (o : Outcome). unless_refused o.answer refused (finish p fuel 0 s o.device)) boot-answers
            ∙ f.ends
            ∙ ap (λ (x : ℕ). recovered x f.store) (zero-add (recovery_steps now) ∙ ap recovery_steps (sym same));
        left = f.left;
      }
