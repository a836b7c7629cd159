mod Chained
mod Covers
mod CycleEnds
mod Fronts
mod Lasts
mod Halving
mod LaterWrites
mod Lookups
mod Newest
mod Orders
mod OwnMoments
mod Places
mod RisingSources
mod Seams
pub mod Steady
mod VisibleEnds
mod WordChanges
