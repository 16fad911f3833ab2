pub mod CountLemmas
pub mod PurposeLemmas
pub mod UsesLemmas
