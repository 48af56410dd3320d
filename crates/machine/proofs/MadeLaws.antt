-- From what the exported library promises of a call to the equation that defines what is made of it. Assumes nothing.
use Rattle.model.specs.Types.{Err, None, Ok, Some}
use Rattle.model.specs.declared.Record.{Record}
use Prim.Native.Nat.{ℕ}
use mathlib.Core.Bool.{true, false}
use mathlib.Core.List.{List, [], ◌∷◌, ◌++◌}
use mathlib.Core.Logic.{◌≢◌}
use mathlib.Core.Path.{◌≡◌, subst}
use native.Mathlib.Omega.{arith}
use borrow.Author.Tests.{ne_eqb}
use lib.ListN.{length, drop}
use Rattle.exports.specs.Exported.{HostState, host_state, OnDevice, Boots, Posts, PostsAs, Steps, Runs}
use Rattle.lines.specs.Lines.{Posting}
use Rattle.model.proofs.TestLaws.{pick_case, pick_true, pick-false}
use Rattle.model.specs.Program.{word}
use Rattle.model.specs.Test.{pick, either}
use Rattle.model.specs.declared.Device.{Device}
use Rattle.script.specs.Script.{check_call, format_call, boot_call, step_call, cut_call, post_call, burst_call, run_call, lines_check_call, least, least_numbers, most_numbers}
use Rattle.trace.specs.Trace.{nothing_stored}
use Rattle.words.specs.Words.{device_of, is_state, state_of, known, unknown}
use Rattle.machine.specs.Machine.{Made, made, answered, on_device, boots, posts, steps, runs, raises_as, raises, calls}
use Rattle.machine.specs.Makes.{made_of, told_as, Complete}

-- ---- by the device words

state-read : (w : List ℕ) → is_state w ≡ true → device_of w ≡ known (state_of w)
unfolding device_of
state-read w e = pick_true (known (state_of w)) unknown e

none_read : (w : List ℕ) → is_state w ≡ false → device_of w ≡ unknown
unfolding device_of
none_read w e = pick-false (known (state_of w)) unknown e

-- a promise by the device words, for whatever follows from it
pub on-device : (h : HostState) {K : Device → Type 0} {U : Type 0} {m : Made} (call : Device → Made) (none : Made)
    → OnDevice h.device K U → ((d : Device) → K d → m ≡ call d) → (U → m ≡ none) → m ≡ on_device h call none
unfolding on_device
on-device h {m = m} call none on told untold =
    pick_case (λ (x : Made). m ≡ x)
    (λ e. told (state_of h.device) (on.state (state_of h.device) (state-read h.device e)))
    (λ e. untold (on.none (none_read h.device e)))

-- ---- each call of program p on store s, device words x and totals t: answer a, device words y

-- an answer that tells no store
pub told_same : (s t : List ℕ) {a b x y : List ℕ} → a ≡ b → x ≡ y → made_of (told_as a 0 x t) s ≡ answered b (host_state s y t)
told_same s t e f = λ i. made (e i ++ (nothing_stored ∷ [])) 0 (host_state s (f i) t)

module _ (p s x t : List ℕ) {a y : List ℕ} where
  pub boot-made : Boots p s x a y → made_of (told_as a 0 y t) s ≡ boots p (host_state s x t)
  unfolding boots
  boot-made b = on-device (host_state s x t) _ _ b (λ d o. told_same s t o.answer o.device) (λ o. told_same s t o.0 o.1)

  pub post_made : (rs : List Record) → Posts p s x rs a y → made_of (told_as a 0 y t) s ≡ posts p (host_state s x t) rs
  unfolding posts
  post_made rs b = on-device (host_state s x t) _ _ b (λ d o. told_same s t o.answer o.device) (λ o. told_same s t o.0 o.1)

pub raise-made : (p s x t a y : List ℕ) (level : ℕ) (q : Posting) → PostsAs p s x level a y q
    → made_of (told_as a 0 y t) s ≡ raises_as p (host_state s x t) level q
unfolding raises_as
raise-made p s x t a y level (Err r) b = told_same s t b.0 b.1
raise-made p s x t a y level (Ok None) b = told_same s t b.0 b.1
raise-made p s x t a y level (Ok (Some e)) b = post_made p s x t _ b

-- ---- a step and a run: of what the host held, h, and holds, g

pub step-made : (p : List ℕ) (h g : HostState) (a : List ℕ) → Steps p h a g → made a 0 g ≡ steps p h
unfolding steps
step-made p h g a b =
    on-device h _ _ b
    (λ d o. λ i. made (o.0.answer i) 0 (host_state (o.0.store i) (o.0.device i) (o.1 i)))
    (λ o. λ i. made (o.0 i) 0 (host_state (o.1.1 i) (o.1.0 i) (o.1.2 i)))

pub run-made : (p : List ℕ) (h g : HostState) (budget n : ℕ) (a : List ℕ) → Runs p h budget n a g → made (a ++ (nothing_stored ∷ [])) n g ≡ runs p h budget
unfolding runs
run-made p h g budget n a b =
    on-device h _ _ b
    (λ d o. λ i. made (o.answer i ++ (nothing_stored ∷ [])) (o.steps i) (host_state (o.store i) (o.device i) (o.totals i)))
    (λ o. λ i. made (o.1 i ++ (nothing_stored ∷ [])) (o.0 i) (host_state (o.2.1 i) (o.2.0 i) (o.2.2 i)))

-- ---- which call is made

-- a burst has nine numbers
pub nine : (kind : ℕ) (ns : List ℕ) → kind ≡ burst_call → Complete kind ns → length ns ≡ 9
unfolding least least_numbers most_numbers pick either
nine kind ns is complete =
    let c = subst (λ (k : ℕ). Complete k ns) is complete in
    omega (arith, c.least (λ e. omega arith), c.most (λ e. omega arith))

-- what no test finds is a raise
pub raise-left : (p : List ℕ) (h : HostState) (kind : ℕ) (ns : List ℕ) → kind ≢ check_call → kind ≢ format_call → kind ≢ boot_call → kind ≢ step_call
    → kind ≢ cut_call → kind ≢ post_call → kind ≢ burst_call → kind ≢ run_call → kind ≢ lines_check_call
    → calls p h kind ns ≡ raises p h (drop 2 ns) (word ns 0) (word ns 1)
unfolding calls pick
raise-left p h kind ns a b c d e f g i j =
    simp (ne_eqb kind check_call a, ne_eqb kind format_call b, ne_eqb kind boot_call c, ne_eqb kind step_call d, ne_eqb kind cut_call e)
    (simp (ne_eqb kind post_call f, ne_eqb kind burst_call g, ne_eqb kind run_call i, ne_eqb kind lines_check_call j))
