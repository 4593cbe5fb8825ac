pub mod Placed
pub mod EditedBytes
pub mod Outcomes
pub mod Books
pub mod Settled
