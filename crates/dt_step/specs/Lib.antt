pub mod State
pub mod Causes
pub mod Plans
pub mod PlanParts
pub mod Alignment
pub mod Steps
