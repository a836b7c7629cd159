pub mod Opening
pub mod Starting
pub mod Joining
