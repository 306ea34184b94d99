pub mod Bitwise
pub mod Counted
pub mod Findings
pub mod Flat
pub mod Masks
pub mod States
