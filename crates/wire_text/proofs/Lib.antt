pub mod WireLemmas
pub mod FrontLemmas
pub mod SplitLemmas
