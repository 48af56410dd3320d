-- The invariant over the words of a store: every call keeps it, meets no refusal but the expected ones, and the serial run follows.
-- Assumes nothing.
use Prim.Native.Nat.{ℕ, suc, ◌≤◌, ◌<◌}
use mathlib.Core.Path.{◌≡◌, refl, sym, ap, ◌∙◌}
use mathlib.Core.Logic.{inl, inr}
use mathlib.Core.Bool.{Bool, true, false, not}
use mathlib.Core.List.{List}
use native.Mathlib.Omega.{arith}
use lib.ListN.{length}
use Rattle.model.proofs.BurstLaws.{burst-passed, EventsFound, all_known, bad_event, events-found}
use Rattle.model.proofs.Checks.{rules_obeyed, early_obeyed, device-sound}
use Rattle.model.proofs.Invariant.{Lengths, On, Inv}
use Rattle.model.proofs.Kept.{Kept, refused-kept, InsideOf, TellsDropped}
use Rattle.model.proofs.KeptCalls.{held_of, resumes_of, turned_off_kept, turned_on_kept, next-kept, posted-kept}
use Rattle.model.proofs.StoreLaws.{view_at, apply, Sized, view_is, view-settled, settled-sized, lengths_are, rule-kept}
use Rattle.model.proofs.TestLaws.{clash, must-true, then_skip}
use Rattle.model.proofs.Passed.{store-passed}
use Rattle.model.specs.Accepted.{Sound, Known}
use Rattle.model.specs.Answer.{refusal}
use Rattle.model.specs.Burst.{is_burst, burst_words, events_rule}
use Rattle.model.specs.Calls.{Call, Boot, Step, Cut, Post, call}
use Rattle.model.specs.Demand3.{is_in, may_meet, Expected}
use Rattle.model.specs.Control.{obey_all, rules, early_rules}
use Rattle.model.specs.Device.{Outcome, out, refuse, judged, fresh, with_handler, is_at_rest, zeros, is_fresh, device_sound, look, begun_of, taken_up, boot_check, boot, cut, post_check, post, next_step, step, set_to_work, takes}
use Rattle.model.specs.Program.{memory_words}
use Rattle.model.specs.Serial.{Serial, given, tell, after_done}
use Rattle.model.specs.Store.{Store, view, Write, none, to, settled, store_rule}
use Rattle.model.specs.Turns.{begun_after, InTurn}
use Rattle.model.specs.Test.{pick, must, ◌then◌, in_turn, both, either}
use Rattle.model.specs.Types.{Answer, Checked, Device, Err, Ok, Record, Refusal, Some}

-- the invariant of a store of l log pairs and q queue records
pub record InvWords (p : List ℕ) (l q : ℕ) (s : List ℕ) (d : Device) (z : Serial) (k : ℕ) : Type 0 where
  pub sized : Sized (memory_words p) l q s
  pub contents : store_rule p s ≡ Ok tt
  pub inv : Inv p (view_at (memory_words p) l q s) d z k

pub record KeptWords (p : List ℕ) (l q : ℕ) (s : List ℕ) (z : Serial) (k : ℕ) (c : Call) (o : Outcome) : Type 0 where
  pub serial : Serial
  pub tells : (fuel : ℕ) → k < fuel → tell fuel (given p l q) z c o.answer ≡ Some serial
  pub expected : Expected c o.answer
  pub turn : InTurn z (begun_of (view s)) o.answer
  pub told : TellsDropped z o.answer
  pub begins : begun_of (view (settled s o.write)) ≡ begun_after (begun_of (view s)) o.answer
  pub inv : InvWords p l q (settled s o.write) o.device serial (suc k)
  pub parts : view_at (memory_words p) l q (settled s o.write) ≡ apply (view_at (memory_words p) l q s) o.write

judged_then : (a b : Checked) (d : Device) (o : Outcome) → judged (a then b) d o ≡ judged a d (judged b d o)
unfolding judged in_turn
judged_then (Ok _) b d o = refl
judged_then (Err r) b d o = refl

module _ (p : List ℕ) (sound : Sound p) (l q : ℕ) (s : List ℕ) (d : Device) (z : Serial) (k : ℕ) (i : InvWords p l q s d z k) where
  abbrev pub v : Store
  v = view_at (memory_words p) l q s

  -- from the parts to the words
  by_write : (e : Device) (y : Serial) (w : Write) → InsideOf p v w → Inv p (apply v w) e y (suc k) → InvWords p l q (settled s w) e y (suc k)
  unfolding settled apply
  by_write e y none inside j = record { sized = i.sized; contents = i.contents; inv = j }
  by_write e y (to w x) inside j =
      record {
        sized = settled-sized (memory_words p) l q s i.sized w x inside;
        contents = rule-kept p s w x ∙ i.contents;
        inv = rw (view-settled (memory_words p) l q s i.sized w x inside) j;
      }

  parts_are : (w : Write) → InsideOf p v w → view_at (memory_words p) l q (settled s w) ≡ apply v w
  unfolding settled apply
  parts_are none inside = refl
  parts_are (to w x) inside = view-settled (memory_words p) l q s i.sized w x inside

  pub view-at : view s ≡ v
  view-at = view_is (memory_words p) l q s i.sized

  to-words : (c : Call) (o : Outcome) → Kept p v z k c o → KeptWords p l q s z k c o
  to-words c o h =
      let inv = by_write o.device h.serial o.write h.inside h.inv in
      let parts = parts_are o.write h.inside in
      record {
        serial = h.serial;
        tells = h.tells;
        expected = h.expected;
        turn = rw view-at h.turn;
        told = h.told;
        begins =
            ap begun_of (view_is (memory_words p) l q (settled s o.write) inv.sized ∙ parts)
            ∙ h.begins
            ∙ ap (λ (u : Store). begun_after (begun_of u) o.answer) (sym view-at);
        inv = inv;
        parts = parts;
      }

  lengths : Lengths p v
  lengths = let e = lengths_are (memory_words p) l q s i.sized in record { memory_length = e.0; log_length = e.1; queue_length = e.2 }

  -- ---- the checks come down to the last

  sound-device : device_sound p (view s) d ≡ true
  unfolding device_sound zeros is_fresh is_at_rest fresh pick both
  sound-device = by_power i.inv
    where
      by_power : Inv p v d z k → device_sound p (view s) d ≡ true
      by_power (inl o) = ap (device_sound p (view s)) o.is_off
      by_power (inr j) = ap (λ (u : Store). device_sound p u d) view-at ∙ device-sound p v d z k j sound

  pub when_on : d.on ≡ true → On p v d z k
  unfolding fresh
  when_on on = by_power i.inv
    where
      by_power : Inv p v d z k → On p v d z k
      by_power (inl o) = clash on (ap (λ (e : Device). e.on) o.is_off)
      by_power (inr j) = j

  pub look_is : look p s d ≡ must d.on Refusal.PowerOff
  unfolding look
  look_is =
      then_skip _ sound.head
      ∙ then_skip _ i.contents
      ∙ then_skip _ (ap (λ (u : Store). obey_all (early_rules p u)) view-at ∙ early_obeyed p v z (held_of i.inv) (resumes_of p v d z k i.inv))
      ∙ then_skip _ (must-true _ sound-device)

  pub boot_is : boot_check p s d ≡ must (not d.on) Refusal.PowerOn
  unfolding boot_check
  boot_is =
      then_skip _ sound.passed
      ∙ then_skip _ i.contents
      ∙ then_skip _ (ap (λ (u : Store). obey_all (rules p u)) view-at ∙ rules_obeyed p v z (held_of i.inv) (resumes_of p v d z k i.inv))

  -- ---- the calls

  refused-words : (c : Call) (r : Refusal) → Expected c (Answer.Refused r) → KeptWords p l q s z k c (refuse d r)
  refused-words c r e = to-words c (refuse d r) (refused-kept p v d z k c r e i.inv)

  judged-words : (c : Call) (b : Bool) (r : Refusal) (o : Outcome) (x : Checked) → x ≡ must b r → Expected c (Answer.Refused r)
      → (b ≡ true → KeptWords p l q s z k c o) → KeptWords p l q s z k c (judged x d o)
  unfolding judged must
  judged-words c true r o x e f h = rw e (h refl)
  judged-words c false r o x e f h = rw e (refused-words c r f)

  pub boot-kept : KeptWords p l q s z k Boot (boot p s d)
  unfolding boot refusal is_in may_meet either after_done
  boot-kept =
      rw view-at
      (judged-words Boot (not d.on) Refusal.PowerOn (out none (taken_up v (begun_of v)) Answer.Done) (boot_check p s d) boot_is refl
      (λ e. to-words Boot _ (turned_on_kept p v d z k sound i.inv)))

  pub cut-kept : KeptWords p l q s z k Cut cut
  unfolding cut after_done
  cut-kept = to-words Cut _ (turned_off_kept p v d z k i.inv)

  pub step_kept : KeptWords p l q s z k Step (step p s d)
  unfolding step refusal is_in may_meet either
  step_kept =
      judged-words Step d.on Refusal.PowerOff (next_step p (view s) d d.handler) (look p s d) look_is refl
      (λ e.
      let j = when_on e in
      rw view-at (to-words Step (next_step p v d d.handler) (next-kept p sound v lengths d z k j d.handler refl j.handles)))

  events-kept : (rs : List Record) (o : Outcome) → (Known p rs → KeptWords p l q s z k (Post rs) o) → KeptWords p l q s z k (Post rs) (judged (events_rule p 0 rs) d o)
  unfolding judged refusal is_in may_meet either
  events-kept rs o h = by_found (events-found p 0 rs)
    where
      by_found : EventsFound p 0 rs → KeptWords p l q s z k (Post rs) (judged (events_rule p 0 rs) d o)
      by_found (all_known known e) = rw e (h known)
      by_found (bad_event j e) = rw e (refused-words (Post rs) (Refusal.NoEvent j) refl)

  some_slot : 1 ≤ q
  some_slot = omega (arith, (store-passed p s sound.rows.contents i.contents).shaped.sizes.some_records, i.sized.records_is)

  post-kept : (rs : List Record) → KeptWords p l q s z k (Post rs) (post p s d rs)
  unfolding post post_check refusal is_in may_meet either
  post-kept rs =
      let o = out none (with_handler d (set_to_work (view s) (length rs)) (burst_words rs)) Answer.Done in
      let sized = is_burst rs in
      let rests = is_at_rest d.handler in
      let free = takes (view s) (length rs) in
      rw (judged_then (look p s d) (must sized Refusal.BurstLength then events_rule p 0 rs then must rests Refusal.HandlerBusy then must free Refusal.QueueFull) d o)
      (judged-words (Post rs) d.on Refusal.PowerOff _ (look p s d) look_is refl
      (λ on.
      rw (judged_then (must sized Refusal.BurstLength) (events_rule p 0 rs then must rests Refusal.HandlerBusy then must free Refusal.QueueFull) d o)
      (judged-words (Post rs) sized Refusal.BurstLength _ _ refl refl
      (λ few.
      rw (judged_then (events_rule p 0 rs) (must rests Refusal.HandlerBusy then must free Refusal.QueueFull) d o)
      (events-kept rs _
      (λ known.
      rw (judged_then (must rests Refusal.HandlerBusy) (must free Refusal.QueueFull) d o)
      (judged-words (Post rs) rests Refusal.HandlerBusy _ _ refl refl
      (λ rest.
      judged-words (Post rs) free Refusal.QueueFull _ _ refl refl
      (λ fits.
      let fit : takes v (length rs) ≡ true = ap (λ (u : Store). takes u (length rs)) (sym view-at) ∙ fits in
      let (least, most) = burst-passed rs few in
      rw view-at (to-words (Post rs) _ (posted-kept p v d z k (when_on on) rs least most known some_slot fit)))))))))))

  pub call_kept : (c : Call) → KeptWords p l q s z k c (call p s d c)
  unfolding call
  call_kept Boot = boot-kept
  call_kept Step = step_kept
  call_kept Cut = cut-kept
  call_kept (Post rs) = post-kept rs
