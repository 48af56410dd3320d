-- What program.img says, and what is promised of it.
pub mod Image
