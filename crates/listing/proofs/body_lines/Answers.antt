-- `body_lines` meets its contract. Assumes nothing.
use mathlib.Core.Path.{◌∙◌}
use native.Mathlib.Omega.{arith}
use Rattle.listing.proofs.ListingLaws.{bodies_more}
use Rattle.listing.proofs.body_lines.Goals as goal

pub loop-number-preserved : goal.loop-number-preserved
loop-number-preserved c =
    record {
      same_length = c.body-end.auto.text ∙ c.loop-number.invariant.same_length;
      most = omega (arith, c.body-end.ensures.upper_bound, c.loop-number.invariant.most);
      puts = bodies_more c.args.program.now c.loop-number.number c.loop-number.invariant.puts c.body-end.ensures.puts;
    }
