-- A text's lines, their mistakes, and the program words.
pub mod Lines
pub mod Mistakes
pub mod Words
pub mod Rules
pub mod Assembles
