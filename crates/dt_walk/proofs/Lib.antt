pub mod ByLeaf
pub mod Dependence
pub mod LeafSteps
pub mod Steps
