pub mod Fields
pub mod Forms
pub mod Rows
pub mod Table
pub mod Words
