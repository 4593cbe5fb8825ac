pub mod Choices
pub mod Edits
