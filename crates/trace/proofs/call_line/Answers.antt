-- `call_line` meets its contract: the line of the name that the number stands for, or of none. Assumes nothing.
use mathlib.Core.Path.{◌∙◌, ap}
use Prim.Native.Nat.{ℕ}
use Rattle.text.proofs.TextLaws.{puts_as}
use Rattle.trace.proofs.TraceLaws.{line_named, line_unnamed}
use Rattle.trace.specs.Trace.{call_line}
use Rattle.trace.proofs.call_line.Goals as goal

pub returns-in-Some-clause-puts : goal.returns-in-Some-clause-puts
returns-in-Some-clause-puts c =
    let number = ap (λ (kind : ℕ). call_line c.args.tabs c.args.number kind c.args.first c.args.second c.args.steps c.args.answer.now c.args.store.now) c.in-Some.ensures in
    puts_as c.named_call_line.ensures.puts (number ∙ line_named _ _ _ _ _ _ _ _)

pub returns-in-None-clause-puts : goal.returns-in-None-clause-puts
returns-in-None-clause-puts c = puts_as c.line.ensures.puts (line_unnamed _ _ _ _ _ _ _ _ c.in-None.ensures)
