-- `acting::perform` meets its contract, by the place. Assumes nothing.
use native.Mathlib.Omega.{arith}
use Rattle.model.specs.Store.{view, settled, stored_word}
use Rattle.device.specs.Result.{device}
use Rattle.body.specs.Running.{body_at, instruction_at}
use Rattle.body.proofs.Running.{running, stores-left, pair_left, there_unfit, there-acts, there-saves}
use Rattle.std.proofs.Common.{sym}
use Rattle.std.proofs.Common.{◌∙◌}
use Rattle.body.proofs.acting.perform.Goals as goal

pub returns-then-not-fits : goal.returns-then-not-fits
unfolding settled stored_word
returns-then-not-fits c = rw (there_unfit c.args.program.now (view c.args.store.now) (device c.args.core c.args.registers.now) c.args.core.place c.requires.fetched _ _ _ c.in-Run.is (sym (c.fits.ensures _ _) ∙ c.if-not-fits.true), c.refused-then-not-fits.ensures)

pub act-requires : goal.act-requires
unfolding body_at instruction_at
act-requires c = record { running = running c.args.program.now c.args.store.now _ c.requires.looked _ _ _ c.in-Run.is; fetches = rw c.in-Run.is at c.requires.fetches_at; count_bound = c.requires.looked.count_in; made_bound = stores-left c.args.program.now c.args.store.now _ c.requires.looked _ _ _ c.in-Run.is }

pub save_rest-requires : goal.save_rest-requires
unfolding body_at instruction_at
save_rest-requires c = let g = rw c.in-Half.is at c.requires.fetches_at in record { shaped = c.requires.looked.shaped.shaped; count_bound = pair_left c.args.program.now c.args.store.now _ c.requires.looked _ _ c.in-Half.is; instruction_bound = omega (arith, g.instruction.place, g.instruction.body.usable.most_instructions) }

pub returns-else-not-fits : goal.returns-else-not-fits
returns-else-not-fits c = rw (there-acts c.args.program.now (view c.args.store.now) (device c.args.core c.args.registers.now) c.args.core.place c.requires.fetched _ _ _ c.in-Run.is (sym (c.fits.ensures _ _) ∙ c.if-not-fits.false)) c.act.ensures

pub returns-in-Half : goal.returns-in-Half
returns-in-Half c = rw (there-saves c.args.program.now (view c.args.store.now) (device c.args.core c.args.registers.now) c.args.core.place c.requires.fetched _ _ c.in-Half.is) (c.save_rest.ensures c.args.registers.now)
