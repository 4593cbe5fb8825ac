pub mod Entries
pub mod Checks
pub mod LoopTurns
pub mod AddOutcomes
pub mod Laws
pub mod Settled
