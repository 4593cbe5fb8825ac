pub mod Renames
pub mod Laws
