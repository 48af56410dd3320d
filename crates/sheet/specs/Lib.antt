-- The exam sheet, its worked rows, what the library promises of it, and what its inner functions promise.
pub mod Sheet
pub mod SheetRows
pub mod Printed
pub mod Inside
