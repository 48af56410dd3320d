-- A mistake in words.
pub mod Told
