pub mod Digits
pub mod Wrote
pub mod Texts
pub mod Room
pub mod Lines
pub mod Cases
pub mod Whole
pub mod Settled
