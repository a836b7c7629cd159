pub mod Addresses
pub mod Fetching
pub mod Laws
pub mod Retiring
pub mod Starting
