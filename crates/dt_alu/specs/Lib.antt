pub mod Words
pub mod Extend
pub mod Alu
pub mod Compare
pub mod Amo
pub mod Worked
