-- Line tables: their definitions, what is claimed of them, worked rows, and what inner functions promise.
pub mod Lines
pub mod Claims
pub mod LinesRows
pub mod Inside
