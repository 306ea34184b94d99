pub mod List
pub mod Read
pub mod Meaning
pub mod Lists
