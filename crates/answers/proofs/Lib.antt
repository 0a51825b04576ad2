pub mod Places
pub mod Fits
pub mod Going
pub mod WithData
pub mod Determined
