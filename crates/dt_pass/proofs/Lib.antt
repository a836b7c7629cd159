mod ACheck
pub mod AllHarts
mod Failing
mod HartRuns
mod OneCheck
