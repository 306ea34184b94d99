pub mod Layers
pub mod Packed
