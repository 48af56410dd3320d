-- `mistakes::among_mistake` meets its contract. Assumes nothing.
use mathlib.Core.Path.{◌≡◌, sym, ap, ◌∙◌}
use borrow.Author.Rules.{rules}
use Rattle.assembly.proofs.MistakeLaws.{found_first, found_nothing, label_is, place_is}
use Rattle.assembly.specs.Mistakes.{found_number, among_mistake}
use Rattle.std.specs.Prelude.{Err}
use Rattle.assembly.proofs.mistakes.among_mistake.Goals as goal

pub returns-in_err-place_mistake-clause-number : goal.returns-in_err-place_mistake-clause-number
unfolding among_mistake
returns-in_err-place_mistake-clause-number c =
    let ls = c.args.lines.now in
    let same : c.from_residual-in_err-place_mistake.result ≡ Err c.in_err-place_mistake.field-0.0 = search rules in
    found_nothing _ _ _ _ (c.label_mistake.ensures.number ∙ sym (label_is ls c.args.start c.args.i _ c.requires.1 c.requires.0)) c.in_ok-label_mistake.was
    (ap found_number same ∙ found_first _ _ _ _ (c.place_mistake.ensures.number ∙ sym (place_is ls c.args.start c.args.i _ c.requires.1)) c.in_err-place_mistake.was)
