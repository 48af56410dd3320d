-- A list of calls: its lines, read byte by byte, and what the library promises of them.
pub mod Script
pub mod Reads
