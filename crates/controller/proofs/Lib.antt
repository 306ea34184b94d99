mod Blocked
mod Short
mod Exact
mod Hosting
pub mod Runs
mod Hindered
mod Only
mod Promising
