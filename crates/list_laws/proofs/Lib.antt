mod FoundLemmas
mod OrderLemmas
mod TriedLemmas
pub mod ListLemmas
pub mod RunLemmas
