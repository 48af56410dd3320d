-- `start` meets its contract. Assumes nothing.
use Prim.Native.Nat.{zero-le}
use mathlib.Core.Path.{refl}
use native.Mathlib.Omega.{arith}
use Rattle.model.proofs.TestLaws.{clash}
use Rattle.script.proofs.start.Goals as goal

pub returns : goal.returns
returns c =
    λ words room.
    record {
      read = refl;
      sized = record {
        room = room;
        name_length = refl;
        held_most = zero-le;
        kind_most = zero-le;
        wide_long = refl;
        wide_in = λ i h. absurd (omega arith);
        count_most = zero-le;
        begun_more = λ e. clash e refl;
        value_most = zero-le;
      };
    }
