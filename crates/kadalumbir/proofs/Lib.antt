pub mod Counts
pub mod Settled
