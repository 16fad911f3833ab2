pub mod KeyLemmas
pub mod LengthLemmas
pub mod RuleLemmas
pub mod TypedLemmas
