pub mod NameFields
