pub mod WordLemmas
pub mod AluLemmas
pub mod ExtendLemmas
pub mod Laws
