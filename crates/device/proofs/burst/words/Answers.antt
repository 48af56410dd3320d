-- `burst::words` meets its contract: word by word. Assumes nothing.
use mathlib.Core.List.{[], ◌∷◌}
use mathlib.Core.Path.{◌∙◌}
use Rattle.device.proofs.Bursts.{kept-words}
use Rattle.device.proofs.burst.words.Goals as goal

pub returns : goal.returns
returns c = (λ i. c.kept.ensures i ∷ c.kept-2.ensures i ∷ c.kept-3.ensures i ∷ c.kept-4.ensures i ∷ c.kept-5.ensures i ∷ c.kept-6.ensures i ∷ c.kept-7.ensures i ∷ c.kept-8.ensures i ∷ []) ∙ kept-words c.args.burst.now c.args.length c.requires
