pub mod Records
pub mod Judging
pub mod Theorems
pub mod Codes
