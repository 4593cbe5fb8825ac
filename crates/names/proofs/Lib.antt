pub mod Laws
pub mod Digits
pub mod CompareTuples
pub mod Validity
pub mod TestedOrder
pub mod NameLaws
pub mod Settled
pub mod DerivedOrder
