pub mod Laws
pub mod Noting
pub mod RunView
pub mod Runs
pub mod Stepping
