-- A commit's last stores as cases of a step.
pub mod Steps
