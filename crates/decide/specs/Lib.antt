pub mod Order
pub mod Fails
pub mod Decisions
pub mod Promised
