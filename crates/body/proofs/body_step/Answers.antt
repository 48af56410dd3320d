-- `body_step` meets its contract: what is fetched is that of the place, refused or performed. Assumes nothing.
use mathlib.Core.Path.{refl}
use Rattle.model.specs.Store.{view, settled, stored_word}
use Rattle.device.specs.Result.{device}
use Rattle.body.proofs.Running.{running-at, fetched-there, fetches_there, there-refused}
use Rattle.body.proofs.body_step.Goals as goal

pub fetch-requires : goal.fetch-requires
fetch-requires c = rw c.body_at-body.ensures (running-at c.args.program.now c.args.store.now _ c.requires.looked _ refl c.requires.of_body)

pub perform-requires : goal.perform-requires
perform-requires c =
    let body = c.body_at-body.ensures in
    let instruction = c.instruction_at-instruction.ensures in
    record {
      looked = c.requires.looked;
      of_body = c.requires.of_body;
      fetched = fetched-there _ _ body instruction _ _ c.fetch.ensures.value c.in-Ok.is;
      fetches_at = fetches_there _ _ body instruction (c.fetch.ensures.given _ c.in-Ok.is);
    }

pub returns-in-Err : goal.returns-in-Err
unfolding settled stored_word
returns-in-Err c =
    let there = fetched-there _ _ c.body_at-body.ensures c.instruction_at-instruction.ensures _ _ c.fetch.ensures.value c.in-Err.is in
    rw (there-refused c.args.program.now (view c.args.store.now) (device c.args.core c.args.registers.now) _ c.requires.of_body there, c.refused.ensures)
