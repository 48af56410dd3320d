-- The totals by what a step tells are the totals that the definition counts: a word is told where a store was made. Assumes nothing.
use Prim.Native.Nat.{ℕ}
use mathlib.Core.List.{List}
use mathlib.Core.Path.{◌≡◌, refl}
use native.Mathlib.Omega.{arith}
use Rattle.model.specs.Calls.{more_by, one_if, is_store, counted}
use Rattle.model.specs.Device.{Outcome}
use Rattle.model.specs.Store.{Write, none, to, stored_word}
use Rattle.model.specs.Test.{pick}
use Rattle.model.specs.declared.Handler.{Handler}
use Rattle.model.specs.declared.Totals.{Totals}
use Rattle.totals.specs.Counted.{stores, counted_from}

stores_is : (s : List ℕ) (w : Write) → stores (stored_word s w) ≡ one_if (is_store w)
unfolding stores stored_word one_if is_store pick
stores_is s none = refl
stores_is s (to w x) = refl

pub counted_is : (s : List ℕ) (t : Totals) (h : Handler) (o : Outcome) → counted t h o ≡ counted_from t h o.answer (stored_word s o.write)
unfolding counted counted_from
counted_is s t h o = rw (stores_is s o.write)

pub more_none : (total : ℕ) → more_by total 0 ≡ total
unfolding more_by
more_none total = omega arith
