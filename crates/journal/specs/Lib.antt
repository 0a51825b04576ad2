pub mod Entries
pub mod Sound
pub mod Changes
pub mod Promised
