-- None of the tasks so far has the number. Assumes nothing.
use mathlib.Core.Bool.{false}
use mathlib.Core.Path.{◌≡◌}
use Rattle.listing.specs.Listing.{has_number}
use Rattle.listing.proofs.has_number.Given as goal

abbrev pub invariant-loop-task : goal.invariant-loop-task
invariant-loop-task l = has_number l.program l.n l.task ≡ false
