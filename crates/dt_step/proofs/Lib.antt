pub mod Accesses
pub mod EvenLemmas
pub mod StepLemmas
