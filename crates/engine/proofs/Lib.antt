pub mod RunNumbers
pub mod Starts
pub mod Answers
pub mod Refusals
pub mod Accepted
pub mod Ended
pub mod Determined
