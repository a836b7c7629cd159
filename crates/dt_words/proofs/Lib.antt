pub mod Parsing
pub mod Worked
