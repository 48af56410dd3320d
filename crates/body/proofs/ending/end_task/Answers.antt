-- `ending::end_task` meets its contract, by the number of the stores made. Assumes nothing.
use mathlib.Core.Path.{◌≡◌}
use native.Mathlib.Omega.{arith}
use Rattle.model.specs.Device.{act, storing, task_stores, with_place, fresh}
use Rattle.model.specs.Store.{settled, stored_word, index}
use Rattle.model.specs.Test.{pick}
use Rattle.body.proofs.ending.end_task.Goals as goal

pub returns-then-made-eq0 : goal.returns-then-made-eq0
unfolding act storing task_stores with_place settled stored_word index pick
returns-then-made-eq0 c = simp (c.if-made-eq0.true, c.stored.ensures)

pub returns-then-made-eq1 : goal.returns-then-made-eq1
unfolding act storing task_stores with_place settled stored_word index pick
returns-then-made-eq1 c = simp (c.if-made-eq1.true, c.stored-then-made-eq1.ensures)

pub returns-then-made-eq2 : goal.returns-then-made-eq2
unfolding act storing task_stores with_place settled stored_word index pick
returns-then-made-eq2 c = simp (c.if-made-eq2.true, c.stored-then-made-eq2.ensures, c.new_open.ensures, c.transaction-then-made-eq2.ensures, c.transaction.ensures, c.body_number-number.ensures)

pub returns : goal.returns
unfolding act storing task_stores with_place settled stored_word index pick fresh
returns c =
    let e : c.args.made ≡ 3 = omega arith in
    simp (e, c.turned_on.ensures.0, c.turned_on.ensures.1)
