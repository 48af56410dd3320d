-- A commit's stores behind its copies, as cases of a step. Assumes nothing.
use Rattle.std.specs.Prelude.{ℕ, ◌+◌, List}
use Rattle.model.specs.Device.{Outcome, turned_on, storing, with_place}
use Rattle.model.specs.Store.{Store, Write}
use Rattle.model.specs.declared.Answer.{Answer}
use Rattle.model.specs.declared.Device.{Device}
use Rattle.model.specs.declared.Place.TheVariants.{Free}

-- store number k of the row ws, where n are made since the commit store
abbrev pub last_store : (Store → List Write) → ℕ → ℕ → Store → Device → Outcome
last_store ws k n v d = storing (ws v) k (with_place d d.registers (Free (n + 1)) d.count) turned_on Answer.Stored
