pub mod LineLaws
pub mod WrongLaws
