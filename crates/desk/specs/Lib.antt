pub mod Fields
pub mod Asking
pub mod Lists
pub mod Promised
pub mod Builds
pub mod Reads
