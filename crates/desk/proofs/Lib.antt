pub mod Standing
pub mod Naming
pub mod Going
pub mod Printing
pub mod Shown
pub mod AnswerRead
pub mod Determined
