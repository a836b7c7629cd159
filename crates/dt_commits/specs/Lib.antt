pub mod States
pub mod Undrained
pub mod Values
