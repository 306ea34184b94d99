pub mod Prefix
pub mod Places
