-- The laws that belong to no one function.
pub mod Parts
pub mod Ring
pub mod Search
