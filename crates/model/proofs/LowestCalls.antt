-- N2: "The place in refusal 7 becomes the lowest word of any broken rule, and for a step or post the lowest at that place of the order",
-- whichever call meets it, for all words and device states. Each check that a call makes refuses with 7 at such a word alone, or with
-- another number; which check refused a step, and with which facts, `why` says (DeviceLaws). Assumes nothing.
use Prim.Native.Nat.{ℕ, suc, ◌≤◌, ◌<◌}
use mathlib.Core.Path.{◌≡◌, refl, sym, subst, ap, ◌∙◌}
use mathlib.Core.Logic.{inl, inr, ⊎_elim, ◌≢◌}
use mathlib.Core.Bool.{Bool, true, false, not}
use mathlib.Core.List.{List, [], ◌∷◌}
use native.Mathlib.Nat.{le_refl}
use native.Mathlib.Omega.{arith}
use borrow.Author.Tests.{ltb-false, le-leb, le-ltb, lt-ltb, eq-eqb, ne_eqb, not-true, not-false}
use lib.Dec.{eqb}
use Rattle.model.proofs.DeviceLaws.{BodyIn, running, half_way, by_record, by_pair, by_body, Why, looked, met, boot_why, post_why, why, by_dropped}
use Rattle.model.proofs.Kept.{first_head}
use Rattle.model.proofs.Lowest.{first_is_lowest}
use Rattle.model.proofs.Numbers.{Low, low-contents, low-store, low-inside, low_used, low-check, low-body}
use Rattle.model.proofs.RingLaws.{between_self, slot_after_apart}
use Rattle.model.proofs.TestLaws.{pick_true, pick-false, clash, same_or, and_true, or_true_left, or_true_right, Refuses, refuses_accepted, refuses_must, refuses_then, must-passed, then_first, then_rest, impossible}
use Rattle.model.specs.Accepted.{MayRun, Looked, MayDrop, Attends}
use Rattle.model.specs.Answer.{refusal}
use Rattle.model.specs.Burst.{events_rule, carried}
use Rattle.model.specs.Calls.{Boot, Step, Cut, Post, call}
use Rattle.model.specs.Claims.{LowestBroken, NoneBroken, running_rule, used_rules, place_rule, in_order, FirstLowest, PlaceIsLowest, NamesLowest}
use Rattle.model.specs.Control.{Rule, broken, obey, obey_all, in_phase, phase_rule, open_rule, count_rule, head_rule, tail_rule, address_rule, start_kept, between, record_rule, rules, early_rules}
use Rattle.model.specs.Device.{look, boot_check, cut, post_check, record_sound, head_sound, open_sound, body_sound}
use Rattle.model.specs.Program.{events, memory_words, body_number}
use Rattle.model.specs.Store.{Store, view, address, event, first_waiting}
use Rattle.model.specs.Test.{◌or◌, must}
use Rattle.model.specs.Types.{Body, Checked, Device, Effect, Err, Ok, Place, Record, Refusal, Resting}

-- ---- refusals whose place, in 7, is the lowest of rs

module _ (rs : List Rule) where
  abbrev IsLowest : Refusal → Type 0
  IsLowest r = (w : ℕ) → r ≡ Refusal.Control w → LowestBroken rs w

  abbrev Lowest : Checked → Type 0
  Lowest c = Refuses IsLowest c

  -- another refusal than 7
  lowest_other : (b : Bool) (r : Refusal) → eqb (refusal r).number 7 ≡ false → Lowest (must b r)
  unfolding refusal
  lowest_other b r e = refuses_must b r (λ _ w f. clash (ap (λ (x : Refusal). eqb (refusal x).number 7) f) e)

  lowest-low : (c : Checked) → Low c → Lowest c
  unfolding refusal
  lowest-low c l = record { with_such = λ r e w f. clash (rw f at (l.with_such r e)) refl }

  lowest-row : NamesLowest rs → Lowest (obey_all rs)
  lowest-row h = record { with_such = λ r e w f. h w (e ∙ ap Err f) }

none-broken : (rs : List Rule) → obey_all rs ≡ Ok tt → NoneBroken rs
unfolding obey_all obey
none-broken [] e r m = absurd m
none-broken (x ∷ xs) e r (inl q) = ap broken q ∙ not-true _ (must-passed _ _ (then_first _ _ e))
none-broken (x ∷ xs) e r (inr m) = none-broken xs (then_rest _ _ e) r m

-- one rule, with its own test
alone : (r : Rule) {w : ℕ} → broken r ≡ true → r.word ≡ w → LowestBroken (r ∷ []) w
alone r {w} is q = record { rule = r; among = inl refl; is_broken = is; word_is = q; lowest = λ x m _. ⊎_elim (λ e. subst (λ (y : Rule). w ≤ y.word) (sym e) (subst (λ (n : ℕ). w ≤ n) (sym q) (le_refl w))) absurd m }

lowest_alone : (b : Bool) (r : Rule) → (b ≡ false → broken r ≡ true) → Lowest (r ∷ []) (must b (Refusal.Control r.word))
lowest_alone b r h = refuses_must b _ (λ e w f. alone r (h e) (cc))

-- ---- the rules of what a step uses

module _ (p : List ℕ) (v : Store) where
  -- the record at head, with the queue not empty in phases 0 and 1
  record_broken : v.phase ≤ 1 → v.head ≤ v.queue_records → v.tail ≤ v.queue_records → v.head ≢ v.tail → events p ≤ event v v.head
      → broken (record_rule p v v.head) ≡ true
  unfolding record_rule phase_rule head_rule tail_rule start_kept
  record_broken z h t ne l =
      let two : v.phase ≤ 2 = omega arith in
      let other : eqb v.phase 2 ≡ false = ne_eqb v.phase 2 (omega arith) in
      let waits : between (first_waiting v) v.tail v.head ≡ true =
      ap (λ (x : ℕ). between x v.tail v.head) (first_head v v.phase refl other) ∙ between_self v.head v.tail ne in
      and_true
      (and_true (le-leb _ _ two)
      (and_true (le-leb _ _ h) (and_true (le-leb _ _ t) (and_true (or_true_left _ _ (ap not other)) waits))))
      (ap not (le-ltb _ _ l))

  -- a pair that is copied
  address-broken : (c : ℕ) → v.phase ≢ 0 → v.phase ≤ 2 → v.count ≤ v.log_pairs → c < v.count → memory_words p ≤ address v c
      → broken (address_rule p v c) ≡ true
  unfolding address_rule count_rule
  address-broken c nz two l h m =
      let phase : (in_phase v 1 or in_phase v 2) ≡ true =
      same_or v.phase 1 (λ e. or_true_left _ _ (eq-eqb _ _ e)) (λ ne. or_true_right _ _ (eq-eqb v.phase 2 (omega arith))) in
      and_true (and_true phase (and_true (le-leb _ _ l) (lt-ltb _ _ h))) (ap not (le-ltb _ _ m))

  used_body : {x : Place} {b : Body} → BodyIn x b → place_rule p v x ≡ running_rule p v b
  unfolding place_rule
  used_body running = refl
  used_body half_way = refl

-- ---- the checks of a call

module _ (p s : List ℕ) (d : Device) where
  abbrev v : Store
  v = view s

  abbrev early : List Rule
  early = early_rules p v

  lowest-look : Lowest early (look p s d)
  unfolding look refusal
  lowest-look =
      refuses_then _ _ (lowest-low early _ (low-contents p))
      (refuses_then _ _ (lowest-low early _ (low-store p s))
      (refuses_then _ _ (lowest-row early (first_is_lowest p v).1) (refuses_then _ _ (lowest_other early _ _ refl) (lowest_other early _ _ refl))))

  lowest-boot : Lowest (rules p v) (boot_check p s d)
  unfolding boot_check refusal
  lowest-boot =
      refuses_then _ _ (lowest-low (rules p v) _ (low-check p))
      (refuses_then _ _ (lowest-low (rules p v) _ (low-store p s))
      (refuses_then _ _ (lowest-row (rules p v) (first_is_lowest p v).0) (lowest_other (rules p v) _ _ refl)))

  lowest-events : (i : ℕ) (rs : List Record) → Lowest early (events_rule p i rs)
  unfolding events_rule refusal
  lowest-events i [] = refuses_accepted
  lowest-events i (r ∷ rs) = refuses_then _ _ (lowest_other early _ _ refl) (lowest-events (suc i) rs)

  lowest_post : (rs : List Record) → Lowest early (post_check p s d rs)
  unfolding post_check refusal
  lowest_post rs =
      refuses_then _ _ lowest-look
      (refuses_then _ _ (lowest_other early _ _ refl)
      (refuses_then _ _ (lowest-events 0 rs) (refuses_then _ _ (lowest_other early _ _ refl) (lowest_other early _ _ refl))))

  module _ (looked-at : Looked p s d) where
    none-early : NoneBroken early
    unfolding look
    none-early = none-broken early (then_first _ _ (then_rest _ _ (then_rest _ _ looked-at.passed)))

    -- the step's own rule, behind the early ones
    behind : {w : ℕ} (rs : List Rule) → used_rules p v d.place d.handler ≡ rs → LowestBroken rs w → FirstLowest (in_order p v d Step) w
    unfolding in_order FirstLowest
    behind {w} rs q h = inr (none-early, inl (subst (λ (used : List Rule). LowestBroken used w) (sym q) h))

    -- that of its place, with the handler at rest
    at_place : {w : ℕ} (r : Rule) → d.handler ≡ Resting → place_rule p v d.place ≡ r → LowestBroken (r ∷ []) w → FirstLowest (in_order p v d Step) w
    unfolding used_rules
    at_place r rests q h = behind (r ∷ []) (ap (used_rules p v d.place) rests ∙ ap (λ (x : Rule). x ∷ []) q) h

    lowest-head : v.phase ≡ 0 → (b : Body) → MayRun p v b → Lowest (running_rule p v b ∷ []) (head_sound p v b)
    unfolding head_sound record_sound record_rule running_rule
    lowest-head z (Body.Task t) m = refuses_accepted
    lowest-head z (Body.Event e) m =
        let c = looked-at.control in
        lowest_alone _ (record_rule p v v.head) (λ q. record_broken p v (omega (arith, z)) c.head_in c.tail_in m.0.2 (ltb-false _ _ q))

    lowest_open : (b : Body) → Lowest (running_rule p v b ∷ []) (open_sound p v b)
    unfolding open_sound obey running_rule
    lowest_open (Body.Task t) = lowest_alone _ (open_rule p v) (not-false _)
    lowest_open (Body.Event e) = refuses_accepted

    lowest-body : v.phase ≡ 0 → (x : Place) (b : Body) (j : ℕ) (f : Effect) → MayRun p v b → Lowest (running_rule p v b ∷ []) (body_sound p v x b j f)
    unfolding body_sound refusal
    lowest-body z x b j f m =
        let rs = running_rule p v b ∷ [] in
        refuses_then _ _ (lowest-head z b m)
        (refuses_then _ _ (lowest-low rs _ (low-inside p))
        (refuses_then _ _ (lowest-low rs _ (low_used p (body_number p b)))
        (refuses_then _ _ (lowest-low rs _ (low-body p (body_number p b) j _ f)) (refuses_then _ _ (lowest_open b) (lowest_other rs _ _ refl)))))

  lowest_step : (w : ℕ) → Why p s d (Refusal.Control w) → FirstLowest (in_order p v d Step) w
  unfolding in_order FirstLowest place_rule used_rules record_rule address_rule
  lowest_step w (looked e) = inl (lowest-look.with_such _ e w refl)
  lowest_step w (met at rests (by_record h o ne l)) =
      let c = at.control in
      at_place at (record_rule p v v.head) rests (ap (place_rule p v) h.place ∙ pick_true _ _ (eq-eqb _ _ h.phase))
      (alone (record_rule p v v.head) (record_broken p v (omega (arith, h.phase)) c.head_in c.tail_in ne l) refl)
  lowest_step w (met at rests (by_pair {c = i} h l m)) =
      let c = at.control in
      at_place at (address_rule p v i) rests (ap (place_rule p v) h.place ∙ pick-false _ _ (ne_eqb _ _ h.phase))
      (alone (address_rule p v i) (address-broken p v i h.phase c.phase_in (c.count_in h.phase) l m) refl)
  lowest_step w (met at rests (by_body x b j f q at_body z m e)) =
      at_place at (running_rule p v b) rests (ap (place_rule p v) q ∙ used_body p v at_body) ((lowest-body at z x b j f m).with_such _ e w refl)
  lowest_step w (by_dropped at q l) =
      let c = at.control in
      let may : MayDrop p v.queue_records v.phase v.head v.tail v.begun (carried d.burst 1) = subst (Attends p v d.burst) q at.handler in
      let some_record : v.head ≢ v.tail =
      λ e. slot_after_apart v.queue_records v.tail at.shaped.shaped.sizes.some_records (may.full ∙ e) in
      behind at (record_rule p v v.head ∷ []) (ap (used_rules p v d.place) q)
      (alone (record_rule p v v.head) (record_broken p v (omega (arith, c.phase_in, may.not_committing)) c.head_in c.tail_in some_record l) refl)

pub place_is_lowest : PlaceIsLowest
unfolding call cut in_order FirstLowest
place_is_lowest p s d Boot w e = inl ((lowest-boot p s d).with_such _ (boot_why p s d _ e) w refl)
place_is_lowest p s d Step w e = lowest_step p s d w (why p s d _ e).0
place_is_lowest p s d Cut w e = impossible (cc)
place_is_lowest p s d (Post rs) w e = inl ((lowest_post p s d rs).with_such _ (post_why p s d rs _ e) w refl)
