pub mod Chains
pub mod Holding
pub mod KeyLaws
pub mod Passing
pub mod Undoing
pub mod Placed
mod Waiting
mod Words
pub mod CountedWrites
pub mod Inserting
pub mod KeyChains
