-- What a routine that writes one word of a part promises: the words after it, and which word it stored. Assumes nothing.
use Rattle.std.specs.Prelude.{ℕ, List, Option, ◌≡◌}
use Rattle.model.specs.Store.{Write, settled, stored_word}

-- The store w to the words s left the words z, and was told.
pub record Written (s : List ℕ) (w : Write) (told : Option ℕ) (z : List ℕ) : Type 0 where
  pub store : z ≡ settled s w
  pub stored : told ≡ stored_word s w
