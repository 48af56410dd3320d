-- `mistakes::first_own` meets its contract. Assumes nothing.
use mathlib.Core.Path.{sym, ◌∙◌}
use Rattle.assembly.proofs.MistakeLaws.{own_step}
use Rattle.assembly.proofs.mistakes.first_own.Goals as goal

pub loop-i-preserved : goal.loop-i-preserved
loop-i-preserved c = sym (own_step c.args.lines.now c.loop-i.i _ c.loop-i-test.true _ _ c.own_mistake.ensures.number c.in_default.is) ∙ c.loop-i.invariant
