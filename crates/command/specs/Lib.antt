pub mod Instructions
pub mod Checks
pub mod Outcomes
pub mod Promised
