-- The definitions' side of the cases: what a chain of calls shows, and two starred cases computed. Assumes nothing.
use Prim.Native.Nat.{ℕ}
use mathlib.Core.List.{List, [], ◌∷◌}
use mathlib.Core.Path.{◌≡◌, refl, ap, ◌∙◌}
use lib.ListN.{replicate}
use Rattle.model.proofs.Definitions.{definitions}
use Rattle.model.specs.Store.{format}
use Rattle.model.specs.Burst.{single}
use Rattle.model.specs.Device.{off, boot, cut, post}
use Rattle.device.specs.Result.{Result}
use Rattle.model.specs.Calls.{RunOutcome, run}
use Rattle.model.specs.Starred.{counting}
use Rattle.model.specs.declared.Answer.{Answer}
use Rattle.model.specs.declared.Device.{Device}
use Rattle.model.specs.declared.Refusal.{Refusal}
use Rattle.model.specs.declared.Totals.{Totals}
use Rattle.cases.specs.Seen.{none, store_after_cut, cut_after, further_post}

-- ---- from the calls' contracts to what is seen: s₁ is formatted, d₁ booted

abbrev pub device_of : Result → Device
device_of r = r.device

abbrev pub store_of : RunOutcome → List ℕ
store_of r = r.store

-- a run whose totals are 0 at first
pub from_none : (p : List ℕ) (n : ℕ) (s : List ℕ) (d : Device) {t : Totals} {x : RunOutcome} → x ≡ run p n s d t → t ≡ none → x ≡ run p n s d none
from_none p n s d e z = e ∙ ap (run p n s d) z

module _ (p s : List ℕ) {s₁ s₂ : List ℕ} {d₁ : Device} (formatted : s₁ ≡ format p 1 1 s) (on : d₁ ≡ (boot p s₁ off).device) where
  pub cut_seen : (n m : ℕ) {s₃ : List ℕ} {d₂ : Device}
      → s₂ ≡ (run p n s₁ d₁ none).store
      → d₂ ≡ (boot p s₂ cut.device).device
      → s₃ ≡ (run p m s₂ d₂ none).store
      → s₃ ≡ store_after_cut p s n m
  unfolding store_after_cut
  cut_seen n m a b e = rw (e, b, a, on, formatted)

  pub post_seen : (n : ℕ) {d₂ d₃ : Device}
      → d₂ ≡ (post p s₁ d₁ (single 0 7)).device
      → s₂ ≡ (run p n s₁ d₂ none).store
      → d₃ ≡ (run p n s₁ d₂ none).device
      → (post p s₂ d₃ (single 0 7)).answer ≡ further_post p s n
  unfolding further_post
  post_seen n a b e = rw (e, b, a, on, formatted)

-- ---- the cases

pub nine : cut_after 9 0 ≡ 0 ∷ 0 ∷ 0 ∷ []
unfolding store_after_cut cut_after counting definitions
nine = refl

pub ten : cut_after 10 5 ≡ 0 ∷ 1 ∷ 0 ∷ []
unfolding store_after_cut cut_after counting definitions
ten = refl

pub ten_but_one : cut_after 10 4 ≡ 1 ∷ 1 ∷ 0 ∷ []
unfolding store_after_cut cut_after counting definitions
ten_but_one = refl

pub further : further_post counting (replicate 25 0) 4 ≡ Answer.Refused Refusal.QueueFull
unfolding further_post counting definitions
further = refl

pub at_once : further_post counting (replicate 25 0) 3 ≡ Answer.Done
unfolding further_post counting definitions
at_once = refl

pub ruleset seen = (nine, ten, ten_but_one, further, at_once)
