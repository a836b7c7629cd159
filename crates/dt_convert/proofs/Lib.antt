pub mod Drafts
pub mod Endings
pub mod Headers
pub mod Files
