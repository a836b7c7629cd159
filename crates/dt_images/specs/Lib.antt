pub mod Formats
pub mod RandomImage
pub mod RandomWord
pub mod SpinImage
pub mod Words
pub mod Worked
