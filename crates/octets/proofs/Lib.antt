pub mod Picks
pub mod Writes
pub mod Numbers
pub mod Same
pub mod Determined
