pub mod Allows
pub mod Picked
