-- `finish` meets its contract: what is left of the schedule is no line, or the one that is held. Assumes nothing.
use Prim.Native.Nat.{ℕ, ◌<◌, zero-le}
use mathlib.Core.Path.{◌≡◌, sym, ap, ◌∙◌}
use native.Mathlib.Omega.{arith}
use lib.ListN.{length, take, length-take}
use Rattle.sheet.proofs.SheetLaws.{finishes_ended, finishes_nothing, finishes_line}
use Rattle.sheet.specs.Printed.{holding}
use borrow.Author.Rules.{rules}
use Rattle.sheet.proofs.finish.Goals as goal

pub returns-then-state : goal.returns-then-state
returns-then-state c = record { upper_bound = zero-le; finishes = λ ready short. finishes_ended c.args.program.now _ c.if-state.true }

pub returns-then-state-eq0 : goal.returns-then-state-eq0
returns-then-state-eq0 c = record { upper_bound = zero-le; finishes = λ ready short. finishes_nothing c.args.program.now _ (ap (λ (n : ℕ). take n c.args.state.line) c.if-state-eq0.true) }

pub returns : goal.returns
returns c =
    let state = c.args.state in
    let seven : length state.line ≡ 7 = search (rules, c.well_formed) in
    let some : 0 < length (take state.held state.line) = simp length-take (omega (arith, seven, c.if-state-eq0.false)) in record {
      upper_bound = omega (arith, c.line.ensures.short);
      finishes = λ ready short.
          let (reached, sized) = ready c.if-state.false in
          finishes_line c.args.program.now (length c.args.copy.now) (holding state c.args.store.now) _ _ some (c.line.ensures.ends reached sized c.if-state.false) short
          ∙ sym c.line.ensures.puts.text;
    }
