-- `mistakes::mistake_of` meets its contract. Assumes nothing.
use mathlib.Core.Path.{◌≡◌, ap, ◌∙◌}
use borrow.Author.Rules.{rules}
use Rattle.assembly.proofs.MistakeLaws.{all_first, all_next}
use Rattle.assembly.specs.Mistakes.{mistake_numbers, mistake_of}
use Rattle.std.specs.Prelude.{Err}
use Rattle.assembly.proofs.mistakes.mistake_of.Goals as goal

pub returns-in_err-first_among-clause-numbers : goal.returns-in_err-first_among-clause-numbers
unfolding mistake_of
returns-in_err-first_among-clause-numbers c =
    let same : c.from_residual-in_err-first_among.result ≡ Err c.in_err-first_among.field-0.0 = search rules in
    all_next _ _ _ _ c.first_own.ensures.numbers c.in_ok-first_own.was
    (ap mistake_numbers same ∙ all_first _ _ _ _ c.first_among.ensures.numbers c.in_err-first_among.was)

pub returns-clause-numbers : goal.returns-clause-numbers
unfolding mistake_of
returns-clause-numbers c = all_next _ _ _ _ c.first_own.ensures.numbers c.in_ok-first_own.was (all_next _ _ _ _ c.first_among.ensures.numbers c.in_ok-first_among.was c.of_text.ensures.numbers)
