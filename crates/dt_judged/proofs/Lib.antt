pub mod Covered
mod Elements
mod Onward
