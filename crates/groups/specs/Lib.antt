pub mod Groups
pub mod Forms
pub mod Calls
pub mod Laws
