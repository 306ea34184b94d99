pub mod Replies
pub mod Files
pub mod Laws
pub mod Said
pub mod Turns
