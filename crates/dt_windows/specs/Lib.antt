pub mod Fences
pub mod Kept
pub mod Laws
pub mod Marks
pub mod Pages
pub mod Worked
