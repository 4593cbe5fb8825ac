pub mod CopiedTuples
pub mod JoinedRows
pub mod ReadTuples
pub mod Settled
