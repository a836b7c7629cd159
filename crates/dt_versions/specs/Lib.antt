pub mod Chains
pub mod Cycles
pub mod History
pub mod Laws
pub mod Spans
pub mod Words
pub mod Worked
