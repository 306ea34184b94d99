pub mod Nth
pub mod Distinct
pub mod Masks
pub mod Few
pub mod Calls
