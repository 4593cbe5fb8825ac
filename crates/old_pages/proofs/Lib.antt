pub mod ConvertedSlots
pub mod Outcomes
pub mod Conversions
pub mod Settled
