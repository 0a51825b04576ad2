pub mod Lent
pub mod Row
pub mod Sound
pub mod Tree
pub mod Records
pub mod Promised
