pub mod Exact
pub mod Faults
pub mod Instructions
pub mod Laws
pub mod Traps
pub mod Worked
