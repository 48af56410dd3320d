-- `mistakes::first_among` meets its contract. Assumes nothing.
use mathlib.Core.Path.{sym, ◌∙◌}
use Rattle.assembly.proofs.MistakeLaws.{among_step, start_next}
use Rattle.assembly.proofs.mistakes.first_among.Goals as goal

pub loop-i-preserved : goal.loop-i-preserved
loop-i-preserved c =
    record {
      start_le_i = c.next_start-start.ensures.upper_bound;
      start = start_next _ _ _ _ c.loop-i.invariant.start c.next_start-start.ensures.value;
      to_come = sym (among_step c.args.lines.now c.loop-i.i _ c.loop-i-test.true _ _ c.among_mistake.ensures.number c.loop-i.invariant.start c.in_default.is) ∙ c.loop-i.invariant.to_come;
    }
