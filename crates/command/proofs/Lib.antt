pub mod Lent
pub mod Outgoing
pub mod Stops
pub mod Says
pub mod Determined
