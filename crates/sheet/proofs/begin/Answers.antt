-- `begin` meets its contract: the header, and the line of a program that the check refuses. Assumes nothing.
use Prim.Native.Nat.{ℕ}
use mathlib.Core.List.{List, [], ◌++◌}
use mathlib.Core.Path.{refl, ap, ◌∙◌}
use native.Mathlib.Omega.{arith}
use Rattle.sheet.proofs.SheetLaws.{begins-refused, begins-accepted}
use Rattle.sheet.specs.Sheet.{header, if_checked}
use Rattle.sheet.specs.declared.State.{State}
use Rattle.sheet.proofs.begin.Goals as goal

pub returns-in_default : goal.returns-in_default
unfolding header
returns-in_default c =
    record {
      end_bound = omega (arith, c.check_line-end.ensures.upper_bound, c.put-end.ensures.ends);
      begins = λ fits.
          begins-refused c.args.checked _ _ _ _ c.in_default.field-0 c.in_default.is (c.check_line-end.ensures.puts.text ∙ ap (λ (l : List ℕ). l ++ if_checked c.args.checked []) c.put-end.ensures.text)
          (ap (λ (x : State). x.ended) c.start.ensures) (ap (λ (x : State). x.number) c.start.ensures);
    }

pub returns : goal.returns
unfolding header
returns c = record { end_bound = omega (arith, c.put-end.ensures.ends); begins = λ fits. begins-accepted c.args.checked c.args.program.now c.args.store.now _ _ _ _ c.in-Ok.is refl fits c.put-end.ensures.text c.start-2.ensures c.format.ensures.store_after }
