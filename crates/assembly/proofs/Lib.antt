pub mod LineLaws
pub mod MistakeLaws
pub mod WordLaws
pub mod AssembleLaws
