pub mod All
pub mod Rows
pub mod ReachedLaws
pub mod SheetLaws
