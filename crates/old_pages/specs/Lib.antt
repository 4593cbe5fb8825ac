pub mod OldPages
pub mod Laws
