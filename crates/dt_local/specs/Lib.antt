pub mod LocalMemory
pub mod Marks
pub mod Slots
