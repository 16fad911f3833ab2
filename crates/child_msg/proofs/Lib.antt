pub mod FromChildLemmas
pub mod PrintedLemmas
pub mod ToChildLemmas
pub mod WriteLemmas
pub mod Theorems
