-- What is seen after calls on a store formatted with L and Q 1, by the definitions.
use Rattle.std.specs.Prelude.{ℕ, List, [], ◌∷◌, replicate}
use Rattle.model.specs.Calls.{RunOutcome, run}
use Rattle.model.specs.Burst.{single}
use Rattle.model.specs.Device.{boot, cut, post, off}
use Rattle.model.specs.Program.{word}
use Rattle.model.specs.Starred.{counting}
use Rattle.model.specs.Store.{format}
use Rattle.model.specs.declared.Answer.{Answer}
use Rattle.model.specs.declared.Device.{Device}
use Rattle.model.specs.declared.Totals.{Totals}

abbrev pub none : Totals
none = record { committed = 0; accepted = 0; stores = 0 }

-- n steps after a boot that met device d
abbrev pub ran_from : List ℕ → List ℕ → Device → ℕ → RunOutcome
ran_from p s d n = run p n s (boot p s d).device none

-- boot, n steps, a cut, a boot, m steps: the store
unfoldable pub store_after_cut : List ℕ → List ℕ → ℕ → ℕ → List ℕ
store_after_cut p s n m = (ran_from p (ran_from p (format p 1 1 s) off n).store cut.device m).store

-- the same of the counting program: the phase, and memory words 0 and 1
unfoldable pub cut_after : ℕ → ℕ → List ℕ
cut_after n m =
    let s = store_after_cut counting (replicate 25 0) n m in
    word s 8 ∷ word s 17 ∷ word s 18 ∷ []

-- boot, a post, n steps, and the answer of a further post
unfoldable pub further_post : List ℕ → List ℕ → ℕ → Answer
further_post p s n =
    let f = format p 1 1 s in
    let r = run p n f (post p f (boot p f off).device (single 0 7)).device none in
    (post p r.store r.device (single 0 7)).answer
