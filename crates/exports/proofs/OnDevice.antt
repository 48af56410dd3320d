-- From what `words::read_device` finds to a promise by the device words. Assumes nothing.
use Rattle.std.proofs.Common.{◌≡◌, Bool, true, false, List, ℕ, refl, sym, ap, subst, ◌∙◌}
use Rattle.exports.specs.Exported.{OnDevice}
use Rattle.model.proofs.TestLaws.{clash, impossible, pick_true, pick-false}
use Rattle.model.specs.Test.{pick}
use Rattle.model.specs.Types.{None, Option, Some}
use Rattle.model.specs.declared.Device.{Device}
use Rattle.words.specs.Words.{Read, device_of, is_state, state_of, known, unknown}

-- what is found of the words w
abbrev pub Finds : List ℕ → Option Device → Type 0
Finds w r = r ≡ pick (is_state w) (Some (state_of w)) None

pub found-state : (w : List ℕ) (e : Device) → Finds w (Some e) → (is_state w ≡ true) × (e ≡ state_of w)
found-state w e f = go (is_state w) refl
  where
    go : (b : Bool) → is_state w ≡ b → (is_state w ≡ true) × (e ≡ state_of w)
    go true t = let found : Some e ≡ Some (state_of w) = f ∙ pick_true _ _ t in (t, cc)
    go false t = let none : Some e ≡ None = f ∙ pick-false _ _ t in impossible (cc)

pub found-none : (w : List ℕ) → Finds w None → is_state w ≡ false
found-none w f = go (is_state w) refl
  where
    go : (b : Bool) → is_state w ≡ b → is_state w ≡ false
    go true t = let found : None ≡ Some (state_of w) = f ∙ pick_true _ _ t in impossible (cc)
    go false t = t

module _ (w : List ℕ) (K : Device → Type 0) (U : Type 0) where
  pub state-read : {e : Device} → Finds w (Some e) → K e → OnDevice w K U
  unfolding device_of
  state-read {e} f k =
      let (holds, same) = found-state w e f in
      let is : device_of w ≡ known (state_of w) = pick_true _ _ holds in
      record {
        state = λ d q. subst K (same ∙ ap (λ (x : Read). x.device) (sym is ∙ q)) k;
        none = λ q. clash refl (ap (λ (x : Read). x.found) (sym is ∙ q));
      }

  pub none_read : Finds w None → U → OnDevice w K U
  unfolding device_of
  none_read f u =
      let is : device_of w ≡ unknown = pick-false _ _ (found-none w f) in
      record { state = λ d q. clash refl (ap (λ (x : Read). x.found) (sym q ∙ is)); none = λ q. u }
