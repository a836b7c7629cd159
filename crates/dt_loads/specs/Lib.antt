pub mod Checks
pub mod Newer
pub mod Reading
pub mod Worked
