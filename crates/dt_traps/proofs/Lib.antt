pub mod Beginnings
pub mod Exactness
