pub mod Written
pub mod Numbers
pub mod Hex
pub mod Decimal
pub mod Answers
pub mod Reading
pub mod ReadBack
pub mod Determined
