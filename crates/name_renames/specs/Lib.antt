pub mod Renaming
pub mod Starred
pub mod Rules
pub mod Laws
pub mod Alone
