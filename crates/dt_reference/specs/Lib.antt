pub mod HartActions
pub mod Meaning
pub mod Run
