pub mod Words
pub mod Results
pub mod Told
pub mod Answers
pub mod Promised
