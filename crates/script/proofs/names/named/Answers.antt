-- `names::named` meets its contract. Assumes nothing.
use mathlib.Core.Path.{refl, ◌∙◌}
use Rattle.script.proofs.ReadingLaws.{name_found, name_passed, names_end}
use Rattle.script.specs.Script.{name_number}
use Rattle.script.proofs.names.named.Goals as goal

pub loop-name-init : goal.loop-name-init
unfolding name_number
loop-name-init c = refl

pub returns-then-same : goal.returns-then-same
returns-then-same c = name_found c.args.bytes.now c.loop-name.name-index _ c.loop-name-test.true c.text.ensures.text c.same.ensures c.loop-name.invariant c.if-same.true

pub loop-name-preserved : goal.loop-name-preserved
loop-name-preserved c = name_passed c.args.bytes.now c.loop-name.name-index _ c.loop-name-test.true c.text.ensures.text c.same.ensures c.loop-name.invariant c.if-same.false

pub returns : goal.returns
returns c = names_end c.args.bytes.now c.loop-name.name-index c.loop-name-test.false ∙ c.loop-name.invariant
