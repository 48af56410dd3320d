-- `load` meets its contract: an image that isn't loaded is refused as 1. Assumes nothing.
use Prim.Native.Nat.{◌/◌, zero-le}
use mathlib.Core.Path.{◌≡◌, sym, ap, ◌∙◌}
use native.Mathlib.Omega.{arith}
use lib.ListN.{length}
use Rattle.model.proofs.TestLaws.{impossible}
use Rattle.model.specs.Check.{check}
use Rattle.image.proofs.ImageLaws.{odd_is_1, few_is_1, unequal_is_1, even_is_checked}
use Rattle.image.specs.Image.{low_first, first_words, program_of}
use Rattle.image.proofs.load.Goals as goal
use Rattle.image.proofs.load.Goals.{then-image-ne0-via-then-image-ne0, then-image-ne0-via-else-image-ne0+then-image-lt12}

pub returns-then-image-ne0 : goal.returns-then-image-ne0
returns-then-image-ne0 c =
    let image = c.args.image.now in
    elim c.then-image-ne0.branch [
      | then-image-ne0-via-then-image-ne0 w ↦
          record { inside = zero-le; checked = odd_is_1 image (omega arith); program = λ e. impossible (cc) }
      | then-image-ne0-via-else-image-ne0+then-image-lt12 w ↦
          record { inside = zero-le; checked = few_is_1 image (omega arith) (omega arith); program = λ e. impossible (cc) }
    ]

pub returns-then-image-count : goal.returns-then-image-count
unfolding low_first
returns-then-image-count c = record { inside = zero-le; checked = unequal_is_1 c.args.image.now (omega arith) (omega arith) (λ e. c.if-image-count.true (e ∙ sym c.low_first-count.ensures)); program = λ e. impossible (cc) }

pub returns : goal.returns
unfolding program_of
returns c =
    let image = c.args.image.now in
    let count : c.low_first-count.result ≡ length image / 2 = omega arith in
    let program = c.fill.ensures ∙ ap (first_words image) count in
    record { inside = omega arith; checked = c.check.ensures.value ∙ ap check program ∙ even_is_checked image (omega arith); program = λ _. program }
