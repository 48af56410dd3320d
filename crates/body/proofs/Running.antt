-- The laws of a running body: what the early checks give, a fetch check by check, and `place_step` from what
-- is fetched. Assumes nothing.
use Rattle.model.specs.Types.{Ok, Err, Checked}
use Prim.Native.Nat.{ℕ, ◌<◌}
use mathlib.Core.Bool.{Bool, true, false}
use mathlib.Core.List.{List}
use mathlib.Core.Path.{◌≡◌, refl, sym, ◌∙◌, ap}
use native.Mathlib.Omega.{arith}
use lib.Dec.{ltb}
use Rattle.model.proofs.TestLaws.{then_first, then_rest, impossible}
use Rattle.model.specs.Accepted.{MayRun, Stands, HasBody, Looked}
use Rattle.model.specs.Check.{instruction_rule}
use Rattle.model.specs.Device.{end_stores, named_row, open_sound, head_is, saves, place_fits, body_sound, Outcome, refuse, judged, act, save_rest, place_step}
use Rattle.model.specs.Program.{word, instructions, body_number, effect_at}
use Rattle.model.specs.Store.{Store, view}
use Rattle.model.specs.Test.{pick, ◌and◌, must, ◌then◌, in_turn, both}
use Rattle.model.specs.declared.Body.{Body}
use Rattle.model.specs.declared.Device.{Device}
use Rattle.model.specs.declared.Effect.{Effect}
use Rattle.model.specs.declared.Place.{Place}
use Rattle.model.specs.declared.Place.TheVariants.{Free, Run, Half}
use Rattle.model.specs.declared.Refusal.{Refusal}
use Rattle.model.proofs.ProgramLaws.{inside-passed, used_passed}
use Rattle.body.specs.Running.{Running, Fetches, OfBody, row_sound, last_sound, does, fetched, fetched_at, FetchesAt, body_at, instruction_at, Fetched}

-- ---- what the early checks give

module _ (p s : List ℕ) (d : Device) (h : Looked p s d) where
  may_run_lem : (b : Body) → MayRun p (view s) b → word s 8 ≡ 0 → Running p s b
  unfolding body_number end_stores
  may_run_lem (Body.Task t) m z =
      record {
        contents = h.contents;
        shaped = h.shaped;
        body = omega (arith, h.control.task_in);
        phase = z;
        task = h.control.task_in;
        head = h.control.head_in;
        ends_task = λ _. refl;
        ends_event = λ l. absurd (omega (arith, h.control.task_in));
      }
  may_run_lem (Body.Event e) m z =
      record {
        contents = h.contents;
        shaped = h.shaped;
        body = omega (arith, m.0);
        phase = z;
        task = h.control.task_in;
        head = h.control.head_in;
        ends_task = λ l. absurd (omega arith);
        ends_event = λ _. refl;
      }

  stands : {x : Place} → d.place ≡ x → Stands p (view s) d.count x
  stands e = rw e at h.place

  pub running : (b : Body) (j n : ℕ) → d.place ≡ Run b j n → Running p s b
  running b j n e = let m = stands e in may_run_lem b m.1 m.0

  pub running_half : (b : Body) (j : ℕ) → d.place ≡ Half b j → Running p s b
  running_half b j e = let m = stands e in may_run_lem b m.1 m.0

  pub running-at : (x : Place) → d.place ≡ x → OfBody d.place → Running p s (body_at x)
  unfolding body_at
  running-at (Free n) e has = absurd (has n e)
  running-at (Run b j n) e has = running b j n e
  running-at (Half b j) e has = running_half b j e

  pub stores-left : (b : Body) (j n : ℕ) → d.place ≡ Run b j n → n < end_stores b
  stores-left b j n e = (stands e).2

  pub pair_left : (b : Body) (j : ℕ) → d.place ≡ Half b j → d.count < word s 2
  pair_left b j e = (stands e).2

-- ---- a fetch, check by check: those of the row, is instruction j there, those of the instruction, word 10's, the record's event

row_first : (a b c d : Checked) → (a then b then c then d) ≡ ((a then b then c) then d)
unfolding in_turn
row_first (Ok _) (Ok _) c d = refl
row_first (Ok _) (Err r) c d = refl
row_first (Err r) b c d = refl

abbrev whole : Checked → Bool → Checked → Checked → Bool → Checked
whole a t m o h = a then pick t m (Ok tt) then o then must (t and h and true) Refusal.State

module _ (p : List ℕ) (v : Store) (r : List ℕ) (b : Body) (j : ℕ) where
  abbrev there : Bool
  there = ltb j (instructions p (body_number p b))

  abbrev at : Effect
  at = effect_at p (body_number p b) j r

  abbrev code_checks : Checked
  code_checks = instruction_rule p (body_number p b) j then named_row p at

  fetched_is : fetched p v r b j ≡ does (whole (row_sound p v b) there code_checks (open_sound p v b) (head_is v b)) at
  unfolding fetched body_sound place_fits
  fetched_is = ap (λ (x : Checked). does x at) (row_first _ _ _ _)

  pub fetched-row : {x : Refusal} → row_sound p v b ≡ Err x → Err x ≡ fetched p v r b j
  unfolding does in_turn
  fetched-row e = rw fetched_is (rw e)

  module _ (row : row_sound p v b ≡ Ok tt) where
    pub gone_open : {x : Refusal} → there ≡ false → open_sound p v b ≡ Err x → Err x ≡ fetched p v r b j
    unfolding does in_turn pick
    gone_open t o = rw fetched_is (simp (row, t, o))

    pub gone : there ≡ false → open_sound p v b ≡ Ok tt → Err Refusal.State ≡ fetched p v r b j
    unfolding does in_turn pick must both
    gone t o = rw fetched_is (simp (row, t, o))

    module _ (t : there ≡ true) where
      pub fetched-code : {x : Refusal} → code_checks ≡ Err x → Err x ≡ fetched p v r b j
      unfolding does in_turn pick
      fetched-code c = rw fetched_is (simp (row, t, c))

      last_is : (h : Bool) (o : Checked) → (o then must (true and h and true) Refusal.State) ≡ (o then must h Refusal.State)
      unfolding both
      last_is true o = refl
      last_is false o = refl

      pub fetched-last : code_checks ≡ Ok tt → does (last_sound p v b) at ≡ fetched p v r b j
      unfolding in_turn pick
      fetched-last c = rw fetched_is (simp (row, t, c) (ap (λ (x : Checked). does x at) (sym (last_is (head_is v b) (open_sound p v b)))))

-- ---- what an accepted row gives

pub row-given : (p s : List ℕ) (b : Body) → Running p s b → row_sound p (view s) b ≡ Ok tt → HasBody p (body_number p b)
row-given p s b h e =
    let rest = then_rest _ _ e in
    used_passed p (body_number p b)
    (record { rows = inside-passed p h.contents (then_first _ _ rest); body = h.body })
    (then_rest _ _ rest)

-- ---- from the checks to what is fetched, and back

pub does_stop : {x : Refusal} {m : Checked} (f : Effect) → m ≡ Err x → Err x ≡ does m f
unfolding does
does_stop f e = rw e

pub does_go : {m : Checked} (f g : Effect) → m ≡ Ok tt → f ≡ g → Ok f ≡ does m g
unfolding does
does_go f g e h = rw (e, h)

pub does-same : {f g : Effect} → ◌≡◌ {A = Fetched} (Ok f) (Ok g) → f ≡ g
does-same e = cc

pub never {ℓ} : {X : Type ℓ} {x : Refusal} {f : Effect} → Err x ≡ Ok f → X
never e = impossible (cc)

pub does-refused : {x : Refusal} (f : Effect) (m : Checked) → does m f ≡ Err x → m ≡ Err x
unfolding does
does-refused f (Ok _) e = cc
does-refused f (Err r) e = cc

pub does-accepted : {g : Effect} (f : Effect) (m : Checked) → does m f ≡ Ok g → (m ≡ Ok tt) × (f ≡ g)
unfolding does
does-accepted f (Ok _) e = (refl, cc)
does-accepted f (Err r) e = (cc, cc)

placed_last : (a b c d e : Checked) (t h q : Bool) (r : Refusal) → (a then b then c then d then e then must (t and h and q) r) ≡ ((a then b then c then d then e then must (t and h and true) r) then must q r)
unfolding in_turn must both
placed_last (Err x) b c d e t h q r = refl
placed_last (Ok _) (Err x) c d e t h q r = refl
placed_last (Ok _) (Ok _) (Err x) d e t h q r = refl
placed_last (Ok _) (Ok _) (Ok _) (Err x) e t h q r = refl
placed_last (Ok _) (Ok _) (Ok _) (Ok _) (Err x) t h q r = refl
placed_last (Ok _) (Ok _) (Ok _) (Ok _) (Ok _) false h q r = refl
placed_last (Ok _) (Ok _) (Ok _) (Ok _) (Ok _) true false q r = refl
placed_last (Ok _) (Ok _) (Ok _) (Ok _) (Ok _) true true q r = refl

-- the checks at a place: those at every place, and that the effect fits it
placed : (p : List ℕ) (v : Store) (x : Place) (b : Body) (j : ℕ) (f : Effect) → body_sound p v x b j f ≡ (body_sound p v (Free 0) b j f then must (place_fits x f) Refusal.State)
unfolding body_sound place_fits
placed p v x b j f = placed_last _ _ _ _ _ _ _ (place_fits x f) Refusal.State

-- ---- `place_step` from what is fetched

module _ (p : List ℕ) (v : Store) (d : Device) (b : Body) (j : ℕ) where
  abbrev effect_here : Effect
  effect_here = effect_at p (body_number p b) j d.registers

  refused-at : {x : Refusal} (y : Place) → fetched p v d.registers b j ≡ Err x → body_sound p v y b j effect_here ≡ Err x
  unfolding fetched in_turn
  refused-at y e = rw (placed, does-refused _ _ e)

  judged-fits : {g : Effect} (y : Place) (o : Effect → Outcome) → fetched p v d.registers b j ≡ Ok g → judged (body_sound p v y b j effect_here) d (o effect_here) ≡ judged (must (place_fits y g) Refusal.State) d (o g)
  unfolding fetched in_turn
  judged-fits y o e = let k = does-accepted _ _ e in rw (placed, k.0, k.1)

  pub run-refused : {x : Refusal} (n : ℕ) → fetched p v d.registers b j ≡ Err x → place_step p v d (Run b j n) ≡ refuse d x
  unfolding place_step judged
  run-refused n e = rw (refused-at (Run b j n) e)

  pub half_refused : {x : Refusal} → fetched p v d.registers b j ≡ Err x → place_step p v d (Half b j) ≡ refuse d x
  unfolding place_step judged
  half_refused e = rw (refused-at (Half b j) e)

  module _ {f : Effect} (e : fetched p v d.registers b j ≡ Ok f) where
    pub run_unfit : (n : ℕ) → place_fits (Run b j n) f ≡ false → place_step p v d (Run b j n) ≡ refuse d Refusal.State
    unfolding place_step judged must
    run_unfit n h = judged-fits (Run b j n) (act p v d b j n) e ∙ rw h

    pub run-acts : (n : ℕ) → place_fits (Run b j n) f ≡ true → place_step p v d (Run b j n) ≡ act p v d b j n f
    unfolding place_step judged must
    run-acts n h = judged-fits (Run b j n) (act p v d b j n) e ∙ rw h

    rest_refuses : (g : Effect) → judged (must (place_fits (Half b j) g) Refusal.State) d (save_rest d b j g) ≡ save_rest d b j g
    unfolding place_fits saves save_rest judged must
    rest_refuses (Effect.Compute a x) = refl
    rest_refuses (Effect.Jump k) = refl
    rest_refuses (Effect.Load a x) = refl
    rest_refuses (Effect.Save x y) = refl
    rest_refuses (Effect.EndTask k) = refl
    rest_refuses Effect.EndEvent = refl
    rest_refuses Effect.Unknown = refl

    pub half_acts : place_step p v d (Half b j) ≡ save_rest d b j f
    unfolding place_step
    half_acts = judged-fits (Half b j) (save_rest d b j) e ∙ rest_refuses f

-- ---- the same at a place of a body

-- what was fetched with body b and instruction j, where these are a place's
module _ (p : List ℕ) (x : Place) {b : Body} {j : ℕ} (body : b ≡ body_at x) (instruction : j ≡ instruction_at x) where
  pub fetched-there : (v : Store) (r : List ℕ) {got y : Fetched} → got ≡ fetched p v r b j → got ≡ y → fetched_at p v r x ≡ y
  fetched-there v r e is = rw (sym body, sym instruction) (sym e ∙ is)

  pub fetches_there : {f : Effect} → Fetches p b j f → FetchesAt p x f
  fetches_there h = rw (sym body, sym instruction) h

pub there-refused : (p : List ℕ) (v : Store) (d : Device) {x : Refusal} (y : Place) → OfBody y → fetched_at p v d.registers y ≡ Err x → place_step p v d y ≡ refuse d x
unfolding body_at instruction_at
there-refused p v d (Free n) has e = absurd (has n refl)
there-refused p v d (Run b j n) has e = run-refused p v d b j n e
there-refused p v d (Half b j) has e = half_refused p v d b j e

module _ (p : List ℕ) (v : Store) (d : Device) (y : Place) where
  module _ {f : Effect} (e : fetched_at p v d.registers y ≡ Ok f) where
    pub there_unfit : (b : Body) (j n : ℕ) → y ≡ Run b j n → place_fits (Run b j n) f ≡ false → place_step p v d y ≡ refuse d Refusal.State
    unfolding body_at instruction_at
    there_unfit b j n q h = rw q (run_unfit p v d b j (rw q at e) n h)

    pub there-acts : (b : Body) (j n : ℕ) → y ≡ Run b j n → place_fits (Run b j n) f ≡ true → place_step p v d y ≡ act p v d b j n f
    unfolding body_at instruction_at
    there-acts b j n q h = rw q (run-acts p v d b j (rw q at e) n h)

    pub there-saves : (b : Body) (j : ℕ) → y ≡ Half b j → place_step p v d y ≡ save_rest d b j f
    unfolding body_at instruction_at
    there-saves b j q = rw q (half_acts p v d b j (rw q at e))
