-- `calls::cut` meets its contract: the copy is the store, and its recovery's steps are made one by one. Assumes nothing.
use Prim.Native.Nat.{ℕ}
use mathlib.Core.Bool.{false}
use mathlib.Core.List.{List, [], ◌∷◌}
use mathlib.Core.Path.{ap, ◌∙◌}
use Rattle.device.specs.Result.{Result}
use Rattle.model.specs.Calls.{Boot, after_calls, steps}
use Rattle.model.specs.Demand3.{recovery_steps}
use Rattle.model.specs.Device.{off, cut}
use Rattle.model.specs.Store.{view}
use Rattle.sheet.proofs.ReachedLaws.{reached_copy}
use Rattle.sheet.specs.Inside.{after_call}
use Rattle.sheet.specs.Sheet.{memory_line}
use Rattle.sheet.proofs.calls.cut.Goals as goal

pub returns : goal.returns
unfolding cut
returns c =
    let p = c.args.program.now in
    let s = c.args.store.now in
    let n = c.args.state.number in
    record {
      printed = c.store_line-end.ensures.printed;
      prints =
          record {
            puts = c.store_line-end.ensures.puts;
            short = c.store_line-end.ensures.short;
            state = c.next-state.ensures ∙ ap (λ (x : Result). after_call x.device n false) (c.cut.ensures []);
          };
      memory =
          λ d reached sized.
          let copied = c.copy_words.ensures sized in
          let stepped = c.recover.ensures ∙ ap (λ (z : List ℕ). (after_calls p z off (Boot ∷ steps (recovery_steps (view z)))).store) copied in
          let (most, start, inside, memory) = reached_copy p s d reached _ stepped in
          c.store_line-end.ensures.memory most start inside ∙ ap (λ (l : List ℕ). memory_line n l) memory;
    }
