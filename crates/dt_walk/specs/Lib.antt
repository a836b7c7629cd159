pub mod Entry
pub mod Leaf
pub mod Walk
pub mod Worked
