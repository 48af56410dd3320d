-- What the contracts of this crate cite beside the definitions of crates/model.
pub mod Written
