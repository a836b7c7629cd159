pub mod Grounds
pub mod Judgement
pub mod Judging
pub mod Keeping
pub mod Kinds
pub mod Laws
pub mod Runs
