-- Text as bytes, numbers in decimal, and what is put into a text.
pub mod Ascii
pub mod Text
pub mod Puts
