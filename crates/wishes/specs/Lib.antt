-- What is printed of a store on wish.
pub mod Wishes
