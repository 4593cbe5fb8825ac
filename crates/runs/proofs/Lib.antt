pub mod RunNames
pub mod TupleFronts
pub mod ByOffsets
pub mod BesideInBytes
pub mod SameButLast
pub mod RunLaws
pub mod WrittenRuns
pub mod Settled
