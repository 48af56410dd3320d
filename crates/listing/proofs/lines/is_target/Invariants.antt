-- None of the instructions so far jumps to the place. Assumes nothing.
use mathlib.Core.Bool.{false}
use mathlib.Core.Path.{◌≡◌}
use Rattle.listing.specs.Listing.{is_target}
use Rattle.listing.proofs.lines.is_target.Given as goal

abbrev pub invariant-loop-number : goal.invariant-loop-number
invariant-loop-number l = is_target l.program l.body l.place l.number ≡ false
