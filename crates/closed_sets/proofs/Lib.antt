pub mod Closure
pub mod Chosen
pub mod Lets
pub mod Outside
