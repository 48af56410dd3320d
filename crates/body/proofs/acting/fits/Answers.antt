-- `acting::fits` meets its contract, of any body and instruction. Assumes nothing.
use borrow.Author.Tests.{eq-eqb, ne_eqb}
use Rattle.model.specs.Device.{place_fits}
use Rattle.model.specs.Test.{pick}
use Rattle.body.proofs.acting.fits.Goals as goal

pub returns-then-made-eq0 : goal.returns-then-made-eq0
unfolding place_fits pick
returns-then-made-eq0 c = λ b j. rw (eq-eqb _ _ c.if-made-eq0.true)

pub returns-else-made-eq0 : goal.returns-else-made-eq0
unfolding place_fits pick
returns-else-made-eq0 c = λ b j. rw (ne_eqb _ _ c.if-made-eq0.false) c.ends.ensures
