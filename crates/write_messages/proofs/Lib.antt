pub mod NamesIntoFields
pub mod Settled
