pub mod Prefixes
pub mod Rules
pub mod PartsOfNames
pub mod GapTests
pub mod NewNames
pub mod Settled
