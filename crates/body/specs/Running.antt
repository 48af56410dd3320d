-- A body at an instruction: what its steps rest on, what fetching its instruction gives. A fetch makes the
-- checks of `body_sound` that hold for every place: those of a free place, which asks nothing of the instruction's effect.
-- proofs/Running.antt has the laws that lead from the early checks to `Running`, and from a fetch to `place_step`. Assumes nothing.
use Rattle.model.specs.Types.{Result, Ok, Err, Checked}
use Rattle.std.specs.Prelude.{ℕ, ◌≤◌, ◌<◌, List, ◌≡◌}
use Rattle.model.specs.Check.{rows_inside_rule, row_usable, instruction_rule}
use Rattle.model.specs.Device.{Outcome, end_stores, head_sound, named_row, open_sound, head_is, body_sound, act}
use Rattle.model.specs.Program.{word, tasks, bodies, body_number, effect_at}
use Rattle.model.specs.Store.{Store}
use Rattle.model.specs.Test.{must, ◌then◌}
use Rattle.model.specs.declared.Body.{Body}
use Rattle.model.specs.declared.Device.{Device}
use Rattle.model.specs.declared.Effect.{Effect}
use Rattle.model.specs.declared.Place.{Place}
use Rattle.model.specs.declared.Place.TheVariants.{Free, Run, Half}
use Rattle.model.specs.declared.Refusal.{Refusal}
use Rattle.model.specs.Accepted.{Contents, HasInstruction, LegalEffect, ShapedFor}

-- body b may run: there is such a body, word 9's task and word 14's slot are there
pub record Running (p s : List ℕ) (b : Body) : Type 0 where
  pub contents : Contents p
  pub shaped : ShapedFor p s
  pub body : body_number p b < bodies p
  pub phase : word s 8 ≡ 0
  pub task : word s 9 < tasks p
  pub head : word s 14 ≤ word s 3
  pub ends_task : body_number p b < tasks p → end_stores b ≡ 4
  pub ends_event : tasks p ≤ body_number p b → end_stores b ≡ 3

-- its instruction j is there, with what it does
pub record Fetches (p : List ℕ) (b : Body) (j : ℕ) (f : Effect) : Type 0 where
  pub instruction : HasInstruction p (body_number p b) j
  pub legal : LegalEffect p (body_number p b) j f

-- what an instruction does, with c stores of its end made, as a case of a step
abbrev pub acts : List ℕ → Body → ℕ → ℕ → Effect → Store → Device → Outcome
acts p b j c f v d = act p v d b j c f

-- ---- A fetch: the checks of a body's record and of its row; the instruction with the row that it names; word 10 and a running event's record

abbrev pub row_sound : List ℕ → Store → Body → Checked
row_sound p v b = head_sound p v b then rows_inside_rule p then row_usable p (body_number p b)

abbrev pub last_sound : List ℕ → Store → Body → Checked
last_sound p v b = open_sound p v b then must (head_is v b) Refusal.State

-- a refusal, or what the instruction does
abbrev pub Fetched : Type 0
Fetched = Result Effect Refusal

unfoldable pub does : Checked → Effect → Fetched
does (Ok _) f = Ok f
does (Err r) f = Err r

-- of the instruction alone, with the registers r
abbrev pub instruction_fetched : List ℕ → List ℕ → ℕ → ℕ → Fetched
instruction_fetched p r i j = does (instruction_rule p i j then named_row p (effect_at p i j r)) (effect_at p i j r)

unfoldable pub fetched : List ℕ → Store → List ℕ → Body → ℕ → Fetched
fetched p v r b j =
    let f = effect_at p (body_number p b) j r in
    does (body_sound p v (Free 0) b j f) f

-- the body of a place, and its instruction; a place without one has task 0's first
unfoldable pub body_at : Place → Body
body_at (Free n) = Body.Task 0
body_at (Run b j n) = b
body_at (Half b j) = b

unfoldable pub instruction_at : Place → ℕ
instruction_at (Free n) = 0
instruction_at (Run b j n) = j
instruction_at (Half b j) = j

-- ---- The same at a place of a body

abbrev pub OfBody : Place → Type 0
OfBody x = (n : ℕ) → x ≡ Free n → ⊥

abbrev pub fetched_at : List ℕ → Store → List ℕ → Place → Fetched
fetched_at p v r x = fetched p v r (body_at x) (instruction_at x)

abbrev pub FetchesAt : List ℕ → Place → Effect → Type 0
FetchesAt p x f = Fetches p (body_at x) (instruction_at x) f
