pub mod MoveLemmas
pub mod CallLemmas
pub mod TopLemmas
pub mod ListLemmas
