pub mod FieldLemmas
pub mod FoundLemmas
pub mod LoginLemmas
pub mod PartLemmas
pub mod ReadLemmas
pub mod UniqueLemmas
pub mod Theorems
