pub mod Codes
pub mod Prefix
pub mod Worked
