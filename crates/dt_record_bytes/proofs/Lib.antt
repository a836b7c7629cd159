pub mod Answering
pub mod Apart
pub mod Bounds
pub mod Fields
pub mod Lengths
pub mod SpellingLaws
pub mod WideProposing
