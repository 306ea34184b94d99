pub mod Blank
pub mod Removals
