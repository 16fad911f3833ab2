mod OwedLemmas
mod AskedLemmas
pub mod AddedLemmas
