pub mod Bits
pub mod Bounds
pub mod Codes
pub mod Listed
pub mod Stacks
pub mod Writes
