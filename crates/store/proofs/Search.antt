-- The search of the log as a loop through its pairs: at the end nothing is found, at a pair with the address that pair, else it goes on.
-- Assumes nothing.
use Rattle.std.proofs.Common.{ℕ, ◌+◌, ◌*◌, ◌-◌, ◌<◌, ◌≡◌, ◌≤◌, suc, List, add-one, arith}
use borrow.Author.Tests.{eq-eqb, ne_eqb}
use Rattle.model.specs.Program.{word}
use Rattle.model.specs.Store.{find_from}
use Rattle.model.specs.Test.{pick}
use Rattle.model.specs.Types.{Some, None}

module _ (log : List ℕ) (a i n : ℕ) where
  pub ended : n ≤ i → None ≡ find_from log a i (n - i)
  unfolding find_from
  ended h = let e : n - i ≡ 0 = omega arith in rw e

  pub hit : i < n → word log (2 * i) ≡ a → Some i ≡ find_from log a i (n - i)
  unfolding find_from pick
  hit h e = let m : n - i ≡ suc (n - (i + 1)) = omega arith in rw m (simp (eq-eqb _ _ e))

  pub missed : i < n → (word log (2 * i) ≡ a → ⊥) → find_from log a (i + 1) (n - (i + 1)) ≡ find_from log a i (n - i)
  unfolding find_from pick
  missed h e = let m : n - i ≡ suc (n - (i + 1)) = omega arith in rw (m, add-one) (simp (ne_eqb _ _ e))

pub ruleset search_laws = (ended, hit, missed)
