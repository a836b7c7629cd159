mod GoingOn
pub mod Retiring
