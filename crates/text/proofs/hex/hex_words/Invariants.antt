-- `hex_words` meets its contract. The invariant: so many words are put. Assumes nothing.
use Prim.Native.Nat.{◌+◌, ◌*◌}
use mathlib.Core.Path.{◌≡◌}
use lib.ListN.{take}
use Rattle.text.specs.Puts.{Puts}
use Rattle.text.specs.Text.{hex_words}
use Rattle.text.proofs.hex.hex_words.Given as goal

abbrev pub invariant-loop-word : goal.invariant-loop-word
invariant-loop-word l = record {
  ends : l.end ≡ l.at + 5 * l.word-index;
  puts : Puts l.initial.text l.at l.text l.end (hex_words (take l.word-index l.words));
}
