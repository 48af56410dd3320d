-- What is put behind what was put, and the words of a number that no mistake has. Assumes nothing.
use Prim.Native.Nat.{ℕ, ◌≤◌}
use mathlib.Core.List.{[]}
use mathlib.Core.Path.{◌≡◌, refl, sym}
use lib.ListN.{length, get_or, get_or-eq_default}
use Rattle.text.proofs.TextLaws.{puts_then}
use Rattle.mistakes.specs.Told.{mistake_texts}

texts-length : length mistake_texts ≡ 37
unfolding mistake_texts
texts-length = refl

pub no_words : {n : ℕ} → 37 ≤ n → [] ≡ get_or mistake_texts n []
no_words h = sym (get_or-eq_default mistake_texts [] (rw texts-length h))

pub ruleset putting = (puts_then)
