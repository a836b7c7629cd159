pub mod Draining
pub mod Worked
