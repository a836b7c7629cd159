pub mod Choices
mod Floors
mod Fronts
mod KeyMoments
mod KnowingLaws
mod KnownFloors
mod Places
mod Ranks
mod Steady
mod TriedMoments
pub mod Untaken
mod YoungestStores
