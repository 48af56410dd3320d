-- `write` meets its contract. Assumes nothing.
use Prim.Native.Nat.{ℕ}
use mathlib.Core.List.{[], ◌∷◌, ◌++◌}
use mathlib.Core.Path.{ap, ◌∙◌}
use lib.ListN.{take}
use Rattle.tokens.proofs.LineLaws.{numbers_set}
use Rattle.tokens.specs.Tokens.{numbers, all_numbers}
use Rattle.tokens.proofs.write.Goals as goal

pub returns : goal.returns
unfolding numbers all_numbers
returns c =
    let reading = c.args.reading in
    numbers_set c.args.room.now c.args.at _ c.requires
    ∙ ap
    (λ (n : ℕ).
    all_numbers (take c.args.at c.args.room.now) ++ (reading.wrong ∷ reading.label ∷ n ∷ reading.second ∷ reading.third ∷ reading.fourth ∷ []))
    c.statement.ensures
