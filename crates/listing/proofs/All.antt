-- All that is claimed of what is printed (specs/ListingRows.antt), with the theorem. The prover begins with this file, the first by name, so a
-- wrong definition is refused at a row, and not at a law that repeats it. Assumes nothing.
use Rattle.listing.proofs.Rows.{listing-rows}
use Rattle.listing.specs.ListingRows.{ListingRows}

pub of_rows : ListingRows
of_rows = listing-rows
