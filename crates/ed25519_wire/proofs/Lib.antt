pub mod OnlyLemmas
pub mod FoundLemmas
pub mod PublicLemmas
pub mod SignatureLemmas
