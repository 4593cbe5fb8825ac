pub mod NewNames
pub mod FoundParts
pub mod Laws
