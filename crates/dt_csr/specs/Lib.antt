pub mod Fields
pub mod Modes
pub mod Registers
pub mod Access
pub mod Traps
pub mod Kept
