-- "A refusal .. changes no word, state or total": whatever the words and the device state, a refused call's outcome is the bare
-- refusal, with no store and the device as it was. Boot and post are one check before one outcome; of a step `why` says it
-- (DeviceLaws). Assumes nothing.
use Prim.Native.Nat.{ℕ}
use mathlib.Core.Path.{◌≡◌, refl, ap, ◌∙◌}
use mathlib.Core.List.{List}
use Rattle.model.proofs.TestLaws.{impossible}
use Rattle.model.proofs.CallLaws.{adds_nothing}
use Rattle.model.proofs.DeviceLaws.{judged-refused, boot_why, post_why, why}
use Rattle.model.specs.Calls.{Call, Boot, Step, Cut, Post, call, is_commit, is_accept, is_store, counted}
use Rattle.model.specs.Claims.{RefusedChangesNothing}
use Rattle.model.specs.Device.{Outcome, refuse, boot, cut, post}
use Rattle.model.specs.Store.{settled}
use Rattle.model.specs.Types.{Answer, Device, Refusal}

-- where an outcome's answer is a refusal, it is nothing else
abbrev pub OnlyRefuses : Device → Outcome → Type 0
OnlyRefuses d o = (r : Refusal) → o.answer ≡ Answer.Refused r → o ≡ refuse d r

-- a refused call is its refusal and nothing else
pub refused_is : (p s : List ℕ) (d : Device) (c : Call) → OnlyRefuses d (call p s d c)
unfolding call boot cut post
refused_is p s d Boot r e = judged-refused d _ (boot_why p s d r e)
refused_is p s d Step r e = (why p s d r e).1
refused_is p s d Cut r e = impossible (cc)
refused_is p s d (Post rs) r e = judged-refused d _ (post_why p s d rs r e)

pub refused_changes_nothing : RefusedChangesNothing
unfolding settled is_commit is_accept is_store
refused_changes_nothing p s d c t r e =
    let q = refused_is p s d c r e in
    record { store = ap (λ (o : Outcome). settled s o.write) q; device = ap (λ (o : Outcome). o.device) q; totals = ap (counted t d.handler) q ∙ adds_nothing t d.handler (refuse d r) refl refl refl }
