-- The laws that belong to no one function.
pub mod Cases
pub mod Handling
