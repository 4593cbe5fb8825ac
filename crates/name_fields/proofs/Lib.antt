pub mod NameInverse
pub mod LongestNames
pub mod NameAt
pub mod Settled
