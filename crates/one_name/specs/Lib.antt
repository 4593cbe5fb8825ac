pub mod Markers
pub mod Changes
pub mod Backs
pub mod Stems
pub mod Laws
