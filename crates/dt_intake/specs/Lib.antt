pub mod Fronts
pub mod Intakes
pub mod Laws
pub mod Told
