pub mod Judging
pub mod Taking
