pub mod Held
pub mod Multiples
