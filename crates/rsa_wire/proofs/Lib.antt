pub mod FoundLemmas
pub mod PublicLemmas
pub mod ReadLemmas
