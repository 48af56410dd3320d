-- The totals by what a step finds and tells, the handler, its answer and the word that it stored, are the totals counted. Assumes nothing.
use Prim.Native.Nat.{ℕ}
use mathlib.Core.List.{List}
use mathlib.Core.Path.{◌≡◌, sym, ap, ◌∙◌}
use Rattle.model.specs.Calls.{counted}
use Rattle.model.specs.Device.{Outcome}
use Rattle.model.specs.declared.Handler.{Handler}
use Rattle.model.specs.declared.Totals.{Totals}
use Rattle.device.specs.Result.{Result, of_outcome}
use Rattle.totals.proofs.CountLaws.{counted_is}
use Rattle.totals.specs.Counted.{counted_from}

pub counted_as_told : (s : List ℕ) (h : Handler) (o : Outcome) (r : Result) (t : Totals) → r ≡ of_outcome s o → counted_from t h r.answer r.stored ≡ counted t h o
counted_as_told s h o r t e = ap (λ (x : Result). counted_from t h x.answer x.stored) e ∙ sym (counted_is s t h o)
