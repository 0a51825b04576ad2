pub mod Left
pub mod Carrying
pub mod Counted
pub mod Scripted
pub mod Going
pub mod Outcomes
pub mod Determined
