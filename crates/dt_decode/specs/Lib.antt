pub mod Decoded
pub mod Fields
pub mod Forms
pub mod Masks
pub mod Meaning
pub mod Rows
pub mod Table
