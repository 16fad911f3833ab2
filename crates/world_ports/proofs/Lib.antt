pub mod LifeLemmas
pub mod MemoryLemmas
pub mod StreamLemmas
