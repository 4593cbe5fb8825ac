pub mod Pages
pub mod Looks
pub mod Places
pub mod Laws
