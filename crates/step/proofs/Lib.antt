pub mod Acts
pub mod Limited
pub mod Keeps
pub mod Handed
pub mod Errors
pub mod Apart
pub mod Moved
pub mod Determined
