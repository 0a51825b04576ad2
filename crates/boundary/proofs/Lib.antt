pub mod Apart
pub mod Determined
