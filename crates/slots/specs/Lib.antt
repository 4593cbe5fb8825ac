pub mod Tuples
pub mod Slots
pub mod Looks
pub mod Laws
