-- A text's lines as numbers, and what the library promises of them.
pub mod Tokens
pub mod Reads
pub mod Uses
