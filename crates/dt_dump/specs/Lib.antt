pub mod Dump
pub mod Last
