pub mod Judgements
pub mod Laws
pub mod Machine
pub mod Marks
pub mod Notes
pub mod Own
pub mod Runs
pub mod Sound
