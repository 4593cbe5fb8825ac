pub mod Heard
pub mod Example
