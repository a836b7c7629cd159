pub mod Answer
pub mod Laws
pub mod Replies
pub mod Running
pub mod Tasks
