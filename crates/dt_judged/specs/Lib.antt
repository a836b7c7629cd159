pub mod Covering
pub mod GoingOn
