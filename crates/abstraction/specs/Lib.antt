pub mod Meaning
pub mod Distinct
