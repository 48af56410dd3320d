-- `fill` meets its contract. The invariant: so many words are filled. Assumes nothing.
use Rattle.std.proofs.Common.{◌≡◌, length, take}
use Rattle.image.specs.Image.{first_words}
use Rattle.image.proofs.fill.Given as goal

abbrev pub invariant-loop-i : goal.invariant-loop-i
invariant-loop-i l = (length l.words ≡ length l.initial.words) × (take l.i l.words ≡ first_words l.image l.i)
