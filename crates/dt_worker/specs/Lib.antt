pub mod Ends
pub mod LaneEnds
pub mod Laws
pub mod Steps
pub mod Telling
pub mod Workers
