pub mod Places
pub mod Kin
pub mod Promises
pub mod Kept
pub mod Determined
pub mod Stays
