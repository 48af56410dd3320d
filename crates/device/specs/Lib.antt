-- How the values of the code stand for those of the definitions, and what a call promises.
pub mod Result
