pub mod Called
pub mod Commands
pub mod Apart
pub mod Demand1
pub mod Demand2
pub mod Remains
pub mod Demand3
