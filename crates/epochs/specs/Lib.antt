pub mod Pairs
pub mod Calls
pub mod Laws
