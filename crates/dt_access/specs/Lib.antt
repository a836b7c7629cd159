pub mod Faults
pub mod Reaching
pub mod Translating
