mod AnAnswer
mod Deciding
mod FoundValues
pub mod LastVisible
pub mod Lines
pub mod Moments
mod NewerWrites
mod OneAnswer
