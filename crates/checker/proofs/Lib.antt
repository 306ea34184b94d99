pub mod Read
pub mod Ordered
pub mod Holding
pub mod Walking
pub mod Deciding
pub mod Whole
pub mod Removing
