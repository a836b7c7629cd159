pub mod Fetches
pub mod Laws
pub mod Newest
pub mod Outcomes
pub mod Worked
