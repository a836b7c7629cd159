pub mod Feeding
pub mod Ends
