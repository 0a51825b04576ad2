pub mod Understood
pub mod ReadBack
pub mod Damaged
pub mod Exchange
