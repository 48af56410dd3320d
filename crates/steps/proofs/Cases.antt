-- What the early checks give of a commit's stores in phases 1 and 2, n of which are made since the commit store: the copies fit the log,
-- and how many stores are left. The cases of a step as equations are laws of the definitions (model/proofs/DeviceLaws.antt).
-- Assumes nothing.
use Prim.Native.Nat.{ℕ, ◌+◌, ◌≤◌, ◌<◌}
use mathlib.Core.Path.{◌≡◌}
use mathlib.Core.List.{List}
use native.Mathlib.Omega.{arith}
use lib.ListN.{length}
use Rattle.model.specs.Accepted.{Looked, Stands}
use Rattle.model.proofs.DeviceLaws.{task_lasts, event_lasts}
use Rattle.model.specs.Device.{last_stores}
use Rattle.model.specs.Program.{word}
use Rattle.model.specs.Store.{view}
use Rattle.model.specs.declared.Device.{Device}
use Rattle.model.specs.declared.Place.{Place}

module _ (p s : List ℕ) (d : Device) (h : Looked p s d) (n : ℕ) (e : d.place ≡ Place.Free n) (ne : word s 8 ≡ 0 → ⊥) where
  pub copies_fit : word s 11 ≤ word s 2
  copies_fit = h.control.count_in ne

  left : n < word s 11 + length (last_stores (view s))
  left = let stands : Stands p (view s) d.count (Place.Free n) = rw e at h.place in stands.1 ne

  pub task-left : word s 8 ≡ 1 → n < word s 11 + 4
  task-left q = omega (arith, left, task_lasts (view s) q)

  pub event-left : (word s 8 ≡ 1 → ⊥) → n < word s 11 + 3
  event-left q = omega (arith, left, event_lasts (view s) q)
