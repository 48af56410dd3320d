-- `disassemble` meets its contract. Assumes nothing.
use native.Mathlib.Omega.{arith}
use Rattle.listing.proofs.ListingLaws.{sound_printable, lists_text}
use Rattle.listing.specs.Listing.{listing}
use Rattle.text.proofs.TextLaws.{puts_then}
use Rattle.listing.proofs.disassemble.Goals as goal

pub body_lines-end-requires-clause-printable : goal.body_lines-end-requires-clause-printable
body_lines-end-requires-clause-printable c = sound_printable c.args.program.now (c.check.ensures.given c.in_ok-check.was)

pub returns : goal.returns
unfolding listing
returns c =
    let all = puts_then (puts_then c.first_lines-end.ensures.puts c.transaction_lines-end.ensures.puts) c.body_lines-end.ensures.puts in
    lists_text c.args.program.now c.body_lines-end.new.text c.body_lines-end.result c.in_ok-check.ensures.value all.text
    (omega (arith, c.first_lines-end.ensures.upper_bound, c.transaction_lines-end.ensures.upper_bound, c.body_lines-end.ensures.upper_bound))
