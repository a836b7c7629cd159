pub mod Reading
pub mod Underway
