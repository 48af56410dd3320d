pub mod MadeLaws
pub mod WordLaws
