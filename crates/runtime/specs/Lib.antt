-- What a run promises.
pub mod RunResult
