-- What a step that tells its answer and the word that it stored adds to the host's totals.
pub mod Counted
