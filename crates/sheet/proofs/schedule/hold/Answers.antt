-- `schedule::hold` meets its contract: one byte more is held, up to seven. Assumes nothing.
use mathlib.Core.Path.{◌≡◌, refl}
use mathlib.Core.Logic.{inl, inr}
use native.Mathlib.Numerals.{add-one}
use native.Mathlib.Omega.{arith}
use lib.ListN.{length, length-take}
use lib.Seq.{take-suc-set}
use borrow.Author.Rules.{rules}
use Rattle.sheet.proofs.schedule.hold.Goals as goal

pub returns-then-held-ge7 : goal.returns-then-held-ge7
returns-then-held-ge7 c =
    λ s.
    let seven : length c.args.state.line ≡ 7 = search rules in
    record { store = refl; device = refl; number = refl; ended = refl; line = inr (simp length-take (omega (arith, seven)), refl) }

pub returns : goal.returns
returns c =
    λ s.
    let seven : length c.args.state.line ≡ 7 = search rules in
    record { store = refl; device = refl; number = refl; ended = refl; line = inl (rw add-one (take-suc-set c.args.state.line c.args.state.held c.args.byte (omega (arith, seven)))) }
