mod Ending
mod FileRecords
mod GoingOn
mod Longer
pub mod OwnRecords
mod Places
mod Starting
