pub mod Lengths
pub mod Templates
pub mod Promised
