-- `steps::handler_step` meets its contract, by how many of its stores are made. Assumes nothing.
use mathlib.Core.Path.{refl}
use native.Mathlib.Omega.{arith}
use Rattle.device.specs.Result.{device_with}
use Rattle.model.specs.Device.{with_handler}
use Rattle.model.specs.Store.{view, settled, stored_word, index}
use Rattle.steps.proofs.Handling.{word-stored, tail-stored}
use Rattle.steps.proofs.handler_step.Goals as goal

pub returns-then-made-length : goal.returns-then-made-length
unfolding with_handler settled stored_word index
returns-then-made-length c = record { on_any = λ r h. simp (word-stored (view c.args.store.now) (device_with c.args.core r h c.args.burst.now) c.args.length c.args.made c.args.later c.args.dropped c.if-made-length.true, c.handler_result.ensures, c.write_ahead-word.ensures.store, c.write_ahead-word.ensures.stored); eight_after = c.requires.eight }

pub returns : goal.returns
unfolding with_handler settled stored_word index
returns c = record { on_any = λ r h. simp (tail-stored (view c.args.store.now) (device_with c.args.core r h c.args.burst.now) c.args.length c.args.made c.args.later c.args.dropped (omega (arith, c.if-made-length.false, c.requires.length_bound)), c.handler_result-2.ensures, c.forward.ensures); eight_after = refl }
