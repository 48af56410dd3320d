-- `numbers::are_small` meets its contract. Assumes nothing.
use Prim.Native.Nat.{zero-le}
use mathlib.Core.Path.{◌≡◌}
use native.Mathlib.Omega.{arith}
use borrow.Author.Rules.{rules}
use lib.ListN.{length, get_or-eq_default}
use Rattle.model.proofs.TestLaws.{below_or}
use Rattle.script.proofs.numbers.are_small.Goals as goal

pub returns-clause-small : goal.returns-clause-small
returns-clause-small c = λ _ i h e. below_or i 3
    (λ near. c.loop-i.invariant i (omega arith) e)
    (λ far. let long : length c.args.wide ≡ 3 = search rules in rw (get_or-eq_default c.args.wide 0 {n = i} (omega arith)) zero-le)
