pub mod ActionLaws
mod DrainLaws
mod Firsts
mod GoingBack
mod GoingOn
mod Keeping
mod Lists
mod Marking
mod MergedBytes
mod MergeLaws
pub mod Merging
mod PlacesOn
mod PlanLaws
mod RamLines
mod Releasing
mod Searching
mod SearchLaws
mod StandingLaws
