pub mod ChainLemmas
pub mod HopLemmas
pub mod PlaceLemmas
pub mod AnswerLemmas
pub mod OrderLemmas
pub mod LeastLemmas
pub mod LawLemmas
pub mod HostLemmas
