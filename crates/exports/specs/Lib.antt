pub mod Exported
pub mod Demand3
