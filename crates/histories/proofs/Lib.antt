pub mod Members
pub mod Unmarked
pub mod Along
pub mod Seven
pub mod Restored
pub mod Demand
pub mod AfterLast
