-- The laws of the words of a device state: part by part, and of the whole.
pub mod Parts
pub mod Words
