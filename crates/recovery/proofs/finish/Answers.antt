-- `finish` meets its contract: a step of those that are left goes on or is refused, and the phase says when they suffice. Assumes nothing.
use Rattle.std.proofs.Common.{◌≡◌, suc, ◌+◌, ◌-◌, refl, sym, ◌∙◌, arith}
use Rattle.recovery.proofs.RecoveryLaws.{finish-none, finish_spent, finish-all, finish_stops, finish_goes, refused-on}
use Rattle.recovery.proofs.finish.Goals as goal

pub loop-made-init : goal.loop-made-init
loop-made-init c = (refl, finish-all _ _ _ _)

pub returns-then-word-eq0 : goal.returns-then-word-eq0
returns-then-word-eq0 c = sym (finish-none _ _ _ _ _ (sym c.word.ensures ∙ c.if-word-eq0.true)) ∙ c.loop-made.invariant.1

pub returns-in_err-refusal : goal.returns-in_err-refusal
returns-in_err-refusal c =
    let left : c.args.allowed - c.loop-made.made ≡ suc (c.args.allowed - (c.loop-made.made + 1)) = omega arith in
    refused-on _ _ _ c.from_residual.ensures.1
    ∙ (sym (finish_stops _ _ _ _ _ _ left (λ z. c.if-word-eq0.false (c.word.ensures ∙ z)) c.step-result.ensures (sym c.refusal.ensures ∙ c.in_err-refusal.was)) ∙ c.loop-made.invariant.1)

pub loop-made-preserved : goal.loop-made-preserved
loop-made-preserved c =
    let left : c.args.allowed - c.loop-made.made ≡ suc (c.args.allowed - (c.loop-made.made + 1)) = omega arith in (
      c.step-result.auto.store ∙ c.loop-made.invariant.0,
      sym (finish_goes _ _ _ _ _ _ left (λ z. c.if-word-eq0.false (c.word.ensures ∙ z)) c.step-result.ensures (sym c.refusal.ensures ∙ c.in_ok-refusal.was)) ∙ c.loop-made.invariant.1,
    )

pub returns-then-word-eq0-2 : goal.returns-then-word-eq0-2
returns-then-word-eq0-2 c =
    let all : c.loop-made.made ≡ c.args.allowed = omega arith in
    rw all at (sym (finish-none _ _ _ _ _ (sym c.word-2.ensures ∙ c.if-word-eq0-2.true)) ∙ c.loop-made.invariant.1)

pub returns : goal.returns
returns c =
    let none_left : c.args.allowed - c.loop-made.made ≡ 0 = omega arith in
    sym (finish_spent _ _ _ _ _ none_left (λ z. c.if-word-eq0-2.false (c.word-2.ensures ∙ z))) ∙ c.loop-made.invariant.1
