pub mod OnDevice
pub mod Told
pub mod Demand3
