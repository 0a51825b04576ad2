pub mod Ends
pub mod Files
pub mod Sums
pub mod Plans
pub mod Promised
