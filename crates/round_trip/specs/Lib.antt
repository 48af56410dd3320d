-- What is claimed of a program that is printed and read again, and the lines by which that is proved.
pub mod RoundTrip
pub mod Expected
