-- The plain readings of SHR and JLT.
pub mod TwosComplement
