-- `calls::burst` meets its contract: the handler keeps the burst's words, of as many records as it has. Assumes nothing.
use mathlib.Core.Path.{sym, ◌∙◌}
use Rattle.model.specs.Device.{judged, post, with_handler}
use Rattle.model.proofs.BurstLaws.{carried-length}
use Rattle.device.proofs.calls.burst.Goals as goal

pub returns-in-Ok : goal.returns-in-Ok
unfolding post judged with_handler
returns-in-Ok c = c.storing_nothing.ensures _ ∙ simp (sym c.post_check.ensures ∙ c.in-Ok.is, c.set_to_work.ensures, c.words.ensures, carried-length)
