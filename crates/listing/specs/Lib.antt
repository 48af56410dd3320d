-- What is printed of a program, its worked rows, and what the library promises of it.
pub mod Listing
pub mod ListingRows
pub mod Lists
