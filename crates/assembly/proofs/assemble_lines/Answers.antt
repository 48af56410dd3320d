-- `assemble_lines` meets its contract. Assumes nothing.
use Prim.Native.Nat.{ℕ}
use mathlib.Core.List.{List}
use mathlib.Core.Path.{◌≡◌, sym, ap, subst, ◌∙◌}
use native.Mathlib.Omega.{arith}
use borrow.Author.Rules.{rules}
use lib.ListN.{length}
use Rattle.assembly.proofs.AssembleLaws.{short-enough, put_inside, makes_mistake, makes_words}
use Rattle.assembly.proofs.MistakeLaws.{all_first, all_next}
use Rattle.assembly.specs.Assembles.{AssemblesLines}
use Rattle.assembly.specs.Mistakes.{MistakeNumbers, mistake_of, mistake_numbers}
use Rattle.assembly.specs.Rules.{lines_mistake, rule_mistake}
use Rattle.model.specs.Check.{check}
use Rattle.model.specs.Types.{Err}
use Rattle.tokens.specs.Tokens.{all_numbers}
use Rattle.assembly.proofs.assemble_lines.Goals as goal

pub returns-in_err-mistake_of-clause-text : goal.returns-in_err-mistake_of-clause-text
unfolding lines_mistake
returns-in_err-mistake_of-clause-text c =
    let room = all_numbers c.args.lines.now in
    let n = length c.args.lines.now in
    let same : c.from_residual.result ≡ Err c.in_err-mistake_of.field-0.0 = search rules in
    subst (AssemblesLines room n c.args.words.now) (sym same)
    (makes_mistake room n c.args.words.now c.in_err-mistake_of.field-0.0 (all_first _ _ _ _ c.mistake_of.ensures.numbers c.in_err-mistake_of.was))

pub put_words-count-requires : goal.put_words-count-requires
put_words-count-requires c =
    let none : (mistake_of (all_numbers c.args.lines.now) (length c.args.lines.now)).number ≡ 0 = ap (λ (m : MistakeNumbers). m.number) (sym c.in_ok-mistake_of.ensures.numbers) in
    record { room_left = omega (arith, c.requires.room_left, short-enough (all_numbers c.args.lines.now) (length c.args.lines.now) none) }

pub returns-in_err-rule_mistake-clause-text : goal.returns-in_err-rule_mistake-clause-text
unfolding lines_mistake
returns-in_err-rule_mistake-clause-text c =
    let room = all_numbers c.args.lines.now in
    let n = length c.args.lines.now in
    let same : c.from_residual-in_err-rule_mistake.result ≡ Err c.in_err-rule_mistake.field-0.0 = search rules in
    let made = c.put_words-count.ensures.text in
    let judged = c.rule_mistake.ensures.numbers ∙ ap (rule_mistake room n _) c.check.ensures.value ∙ ap (λ (p : List ℕ). rule_mistake room n p (check p)) made in
    subst (AssemblesLines room n c.put_words-count.new.words) (sym same)
    (makes_mistake room n c.put_words-count.new.words c.in_err-rule_mistake.field-0.0
    (all_next _ _ _ _ c.mistake_of.ensures.numbers c.in_ok-mistake_of.was (sym (ap mistake_numbers c.in_err-rule_mistake.was) ∙ judged)))

pub returns-clause-text : goal.returns-clause-text
unfolding lines_mistake
returns-clause-text c =
    let room = all_numbers c.args.lines.now in
    let n = length c.args.lines.now in
    let made = c.put_words-count.ensures.text in
    let judged = c.rule_mistake.ensures.numbers ∙ ap (rule_mistake room n _) c.check.ensures.value ∙ ap (λ (p : List ℕ). rule_mistake room n p (check p)) made in
    let none = sym (ap mistake_numbers c.in_ok-rule_mistake.was) ∙ judged in
    makes_words room n c.put_words-count.new.words c.put_words-count.result (all_next _ _ _ _ c.mistake_of.ensures.numbers c.in_ok-mistake_of.was none) none
    (put_inside c.put_words-count.ensures) made
