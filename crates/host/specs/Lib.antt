-- What a step promises with lent totals.
pub mod Counts
