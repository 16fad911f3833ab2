pub mod FoundLemmas
pub mod ReadLemmas
pub mod UniqueLemmas
pub mod Theorems
