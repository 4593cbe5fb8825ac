pub mod Ordering
pub mod Names
pub mod Laws
