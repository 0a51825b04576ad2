pub mod Compact
pub mod Promised
