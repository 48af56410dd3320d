-- What is promised of a recovery.
pub mod Recovers
