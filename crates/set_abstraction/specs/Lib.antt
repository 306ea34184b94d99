pub mod Set
pub mod Removals
pub mod Codes
