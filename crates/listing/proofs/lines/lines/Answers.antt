-- `lines::lines` meets its contract. Assumes nothing.
use mathlib.Core.Path.{◌∙◌}
use native.Mathlib.Omega.{arith}
use Rattle.listing.proofs.ListingLaws.{instructions_more}
use Rattle.listing.proofs.lines.lines.Goals as goal

pub loop-number-preserved : goal.loop-number-preserved
loop-number-preserved c =
    record {
      same_length = c.line-end.auto.text ∙ c.loop-number.invariant.same_length;
      most = omega (arith, c.line-end.ensures.upper_bound, c.loop-number.invariant.most);
      puts = instructions_more c.args.program.now c.args.body c.loop-number.number c.loop-number.invariant.puts c.line-end.ensures.puts;
    }
