-- `fetching::fetch` meets its contract, check by check. Assumes nothing.
use Rattle.std.proofs.Common.{rules}
use mathlib.Core.Path.{◌≡◌, sym, ◌∙◌}
use borrow.Author.Tests.{le-ltb, lt-ltb}
use Rattle.model.specs.Store.{view}
use Rattle.model.specs.Types.{Err}
use Rattle.body.proofs.Running.{fetched-row, gone_open, gone, fetched-code, fetched-last, does_stop, does_go, does-refused, does-accepted}
use Rattle.body.proofs.fetching.fetch.Goals as goal

pub returns-in_err-row_sound-clause-value : goal.returns-in_err-row_sound-clause-value
returns-in_err-row_sound-clause-value c =
    let same : c.from_residual.result ≡ Err c.in_err-row_sound.field-0.0 = search rules in
    same ∙ fetched-row c.args.program.now (view c.args.store.now) c.args.registers.now c.args.body c.args.instruction (sym c.row_sound.ensures.value ∙ c.in_err-row_sound.was)

pub returns-in_err-open_sound-clause-value : goal.returns-in_err-open_sound-clause-value
returns-in_err-open_sound-clause-value c =
    let same : c.from_residual-in_err-open_sound.result ≡ Err c.in_err-open_sound.field-0.0 = search rules in
    same ∙ gone_open c.args.program.now (view c.args.store.now) c.args.registers.now c.args.body c.args.instruction (sym c.row_sound.ensures.value ∙ c.in_ok-row_sound.was) (le-ltb _ _ (rw (c.instructions.ensures, c.body_number-number.ensures) at c.if-instruction-instructions.true)) (sym c.open_sound.ensures ∙ c.in_err-open_sound.was)

pub returns-then-instruction-instructions-clause-value : goal.returns-then-instruction-instructions-clause-value
returns-then-instruction-instructions-clause-value c = gone c.args.program.now (view c.args.store.now) c.args.registers.now c.args.body c.args.instruction (sym c.row_sound.ensures.value ∙ c.in_ok-row_sound.was) (le-ltb _ _ (rw (c.instructions.ensures, c.body_number-number.ensures) at c.if-instruction-instructions.true)) (sym c.open_sound.ensures ∙ c.in_ok-open_sound.was)

pub returns-in_err-effect-clause-value : goal.returns-in_err-effect-clause-value
returns-in_err-effect-clause-value c =
    let same : c.from_residual-in_err-effect.result ≡ Err c.in_err-effect.field-0.0 = search rules in
    same ∙ fetched-code c.args.program.now (view c.args.store.now) c.args.registers.now c.args.body c.args.instruction (sym c.row_sound.ensures.value ∙ c.in_ok-row_sound.was) (lt-ltb _ _ (rw (c.instructions.ensures, c.body_number-number.ensures) at c.if-instruction-instructions.false)) (does-refused _ _ (sym (rw c.body_number-number.ensures at c.instruction_effect.ensures.value) ∙ c.in_err-effect.was))

pub returns-in_err-last_sound-clause-value : goal.returns-in_err-last_sound-clause-value
returns-in_err-last_sound-clause-value c =
    let same : c.from_residual-in_err-last_sound.result ≡ Err c.in_err-last_sound.field-0.0 = search rules in
    same ∙ does_stop _ (sym c.last_sound.ensures ∙ c.in_err-last_sound.was) ∙ fetched-last c.args.program.now (view c.args.store.now) c.args.registers.now c.args.body c.args.instruction (sym c.row_sound.ensures.value ∙ c.in_ok-row_sound.was) (lt-ltb _ _ (rw (c.instructions.ensures, c.body_number-number.ensures) at c.if-instruction-instructions.false)) (does-accepted _ _ (sym (rw c.body_number-number.ensures at c.instruction_effect.ensures.value) ∙ c.in_ok-effect.was)).0

pub returns-clause-value : goal.returns-clause-value
returns-clause-value c =
    let accepted = does-accepted _ _ (sym (rw c.body_number-number.ensures at c.instruction_effect.ensures.value) ∙ c.in_ok-effect.was) in
    does_go _ _ (sym c.last_sound.ensures ∙ c.in_ok-last_sound.was) (sym accepted.1) ∙ fetched-last c.args.program.now (view c.args.store.now) c.args.registers.now c.args.body c.args.instruction (sym c.row_sound.ensures.value ∙ c.in_ok-row_sound.was) (lt-ltb _ _ (rw (c.instructions.ensures, c.body_number-number.ensures) at c.if-instruction-instructions.false)) accepted.0
