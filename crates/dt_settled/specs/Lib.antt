pub mod AllWrites
pub mod Laws
pub mod Settling
pub mod Waiting
