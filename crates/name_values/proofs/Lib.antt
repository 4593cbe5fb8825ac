pub mod JoinedRows
pub mod OneBelowByValue
pub mod GivenRows
pub mod Settled
