pub mod Counting
pub mod Exclusive
pub mod Fronts
pub mod OneMore
pub mod Told
