pub mod Laws
pub mod Refilling
pub mod Worked
