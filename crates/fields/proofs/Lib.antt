pub mod FieldInverse
pub mod FieldAt
pub mod Settled
