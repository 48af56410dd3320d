-- What a list of calls is played on: the calls that are made on it, and the changes that stand for damage.
pub mod Machine
pub mod Makes
