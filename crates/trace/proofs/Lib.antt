pub mod All
pub mod Rows
pub mod TraceLaws
