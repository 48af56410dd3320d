-- No line so far has a mistake of its own.
use Prim.Native.Nat.{◌-◌}
use mathlib.Core.Path.{◌≡◌}
use lib.ListN.{length}
use Rattle.assembly.specs.Mistakes.{first_own}
use Rattle.tokens.specs.Tokens.{all_numbers}
use Rattle.assembly.proofs.mistakes.first_own.Given as goal

abbrev pub invariant-loop-i : goal.invariant-loop-i
invariant-loop-i l = first_own (all_numbers l.lines) l.i (length l.lines - l.i) ≡ first_own (all_numbers l.lines) 0 (length l.lines)
