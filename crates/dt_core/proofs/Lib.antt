pub mod Announced
mod Chances
mod Counterexample
pub mod Insertion
mod Loops
mod Places
mod Reached
mod Reaches
mod Runs
mod Selection
mod Sorting
mod Stamps
pub mod Telling
mod Watermark
