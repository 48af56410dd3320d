-- What is promised of the uncut recovery of a lent store. Assumes nothing.
use Rattle.std.specs.Prelude.{ℕ, List}
use Rattle.model.specs.Calls.{Recovery, recovered, refused, unfinished}
use Rattle.model.specs.Types.{Err, None, Ok, Option, Result, Some}
use Rattle.model.specs.declared.Refusal.{Refusal}

-- how it ended, with the words that are left: after so many steps, not in the steps that were allowed, or by a refusal
abbrev pub recovery_of : Result (Option ℕ) Refusal → List ℕ → Recovery
recovery_of (Ok (Some n)) s = recovered n s
recovery_of (Ok None) s = unfinished
recovery_of (Err r) s = refused r
