-- `copying::task_last` meets its contract, by the number of the stores made. Assumes nothing.
use mathlib.Core.Path.{◌≡◌}
use native.Mathlib.Omega.{arith}
use Rattle.model.specs.Device.{fresh, storing, task_last_stores, with_place}
use Rattle.model.specs.Store.{settled, stored_word, index}
use Rattle.model.specs.Test.{pick}
use Rattle.steps.proofs.copying.task_last.Goals as goal

pub returns-then-last-eq0 : goal.returns-then-last-eq0
unfolding storing task_last_stores with_place pick settled stored_word index fresh
returns-then-last-eq0 c = simp (c.if-last-eq0.true, c.stored.ensures)

pub returns-then-last-eq1 : goal.returns-then-last-eq1
unfolding storing task_last_stores with_place pick settled stored_word index fresh
returns-then-last-eq1 c = rw (c.if-last-eq1.true, c.stored-then-last-eq1.ensures)

pub returns-then-last-eq2 : goal.returns-then-last-eq2
unfolding storing task_last_stores with_place pick settled stored_word index fresh
returns-then-last-eq2 c = rw (c.if-last-eq2.true, c.stored-then-last-eq2.ensures)

pub returns : goal.returns
unfolding storing task_last_stores with_place pick settled stored_word index fresh
returns c = let e : c.args.last ≡ 3 = omega (arith, c.if-last-eq0.false, c.if-last-eq1.false, c.if-last-eq2.false) in rw (e, c.turned_on.ensures.0, c.turned_on.ensures.1)
