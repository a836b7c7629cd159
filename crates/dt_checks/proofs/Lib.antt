mod Histories
mod Places
pub mod Retired
