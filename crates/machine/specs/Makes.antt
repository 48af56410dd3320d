-- What the library promises of lent words: the first of them, as many as are held, are the ones that are defined. Assumes nothing.
use Rattle.std.specs.Prelude.{ℕ, ◌≤◌, List, [], ◌∷◌, ◌++◌, ◌≢◌, ◌≡◌, eqb, length, take}
use Rattle.exports.specs.Exported.{host_state}
use Rattle.model.specs.Test.{pick}
use Rattle.script.specs.Script.{check_call, format_call, boot_call, step_call, cut_call, post_call, burst_call, run_call, lines_check_call, least_numbers, most_numbers}
use Rattle.trace.specs.Trace.{nothing_stored}
use Rattle.machine.specs.Machine.{Made, made}
use Rattle.machine.specs.declared.Called.{Called}
use Rattle.machine.specs.declared.Kind.{Kind}

-- what a call left, with the lent store
abbrev pub made_of : Called → List ℕ → Made
made_of r s = made r.answer r.steps (host_state s r.device r.totals)

-- what is told in five words and tells no store
abbrev pub told_as : List ℕ → ℕ → List ℕ → List ℕ → Called
told_as answer steps device totals = record { answer = answer ++ (nothing_stored ∷ []); steps = steps; device = device; totals = totals }

-- the numbers of a call: a run's is the budget, all others' are words
abbrev pub numbers_for : ℕ → ℕ → List ℕ → List ℕ
numbers_for kind budget words = pick (eqb kind run_call) (budget ∷ []) words

-- the number of a call in a list; a raise is what is none of the others
abbrev pub Numbered : ℕ → Kind → Type 0
Numbered n Kind.Check = n ≡ check_call
Numbered n Kind.Format = n ≡ format_call
Numbered n Kind.Boot = n ≡ boot_call
Numbered n Kind.Step = n ≡ step_call
Numbered n Kind.Cut = n ≡ cut_call
Numbered n Kind.Post = n ≡ post_call
Numbered n Kind.Burst = n ≡ burst_call
Numbered n Kind.Run = n ≡ run_call
Numbered n Kind.LinesCheck = n ≡ lines_check_call
Numbered n Kind.Raise =
    (n ≢ check_call) × (n ≢ format_call) × (n ≢ boot_call) × (n ≢ step_call) × (n ≢ cut_call) × (n ≢ post_call) × (n ≢ burst_call) × (n ≢ run_call)
    × (n ≢ lines_check_call)

-- as many as the call has
pub record Complete (kind : ℕ) (words : List ℕ) : Type 0 where
  pub least : kind ≢ run_call → least_numbers kind ≤ length words
  pub most : kind ≢ run_call → length words ≤ most_numbers kind

-- the first n of lent words are these, and they are inside
pub record First (words : List ℕ) (n : ℕ) (ws : List ℕ) : Type 0 where
  pub inside : n ≤ length words
  pub first : take n words ≡ ws
