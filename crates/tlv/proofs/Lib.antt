pub mod Fits
pub mod Written
pub mod Behind
pub mod Determined
