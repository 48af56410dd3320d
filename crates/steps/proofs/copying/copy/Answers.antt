-- `copying::copy` meets its contract: a pair whose address isn't below M is refused at its word, any other goes to memory.
-- Assumes nothing.
use Prim.Native.Nat.{◌<◌}
use mathlib.Core.Path.{sym, ◌∙◌}
use native.Mathlib.Omega.{arith}
use borrow.Author.Tests.{ltb-true}
use Rattle.model.proofs.TestLaws.{must-passed}
use Rattle.model.specs.Device.{pair_sound}
use Rattle.model.specs.Program.{memory_words}
use Rattle.model.specs.Store.{view, address}
use Rattle.steps.proofs.copying.copy.Goals as goal

pub write-word-requires : goal.write-word-requires
unfolding pair_sound
write-word-requires c =
    let a = c.args in
    let inside : address (view a.store.now) a.pair < memory_words a.program.now = ltb-true _ _ (must-passed _ _ (sym c.pair_address.ensures ∙ c.in_default.is)) in
    record { shaped = c.requires.shaped_for.shaped; address_bound = omega (arith, c.address-address.ensures, inside, c.requires.shaped_for.memory) }
