pub mod AnAnswer
pub mod Checking
pub mod Filing
pub mod OneAnswer
pub mod Replying
pub mod SameReport
pub mod Tasks
