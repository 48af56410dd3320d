-- What a function that puts something into a text promises. Assumes nothing.
use Rattle.std.specs.Prelude.{ℕ, ◌+◌, List, ◌++◌, ◌≡◌, length, take}

-- xs was put at place n of the text t, which became u; it ends at m
pub record Puts (t : List ℕ) (n : ℕ) (u : List ℕ) (m : ℕ) (xs : List ℕ) : Type 0 where
  pub ends : m ≡ n + length xs
  pub text : take m u ≡ take n t ++ xs
