pub mod LookLemmas
pub mod PutLemmas
pub mod TurnLemmas
