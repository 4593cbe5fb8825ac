pub mod Ascii
pub mod Listing
pub mod Laws
