pub mod Tables
pub mod Tree
pub mod Laws
pub mod Counts
pub mod Case
