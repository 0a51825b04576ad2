pub mod Numbers
pub mod Promised
pub mod Calls
pub mod Hex
pub mod Worked
