-- `runtime_cut` meets its contract. Assumes nothing.
use mathlib.Core.List.{[]}
use mathlib.Core.Path.{ap, ◌∙◌}
use Rattle.device.specs.Result.{Result}
use Rattle.model.specs.Device.{cut}
use Rattle.words.specs.Words.{answer_words, device_words}
use Rattle.exports.proofs.runtime_cut.Goals as goal

pub returns : goal.returns
unfolding cut
returns c = (
  c.tell.ensures.0 ∙ ap (λ (x : Result). answer_words x.answer) (c.cut.ensures []),
  c.tell.ensures.1 ∙ ap (λ (x : Result). device_words x.device) (c.cut.ensures []),
)
