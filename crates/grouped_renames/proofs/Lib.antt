pub mod Grouped
pub mod Example
