pub mod Named
-- What is printed of a call and of the store behind it, and its worked rows.
pub mod Trace
pub mod TraceRows
