pub mod ChangedBytes
pub mod Settled
