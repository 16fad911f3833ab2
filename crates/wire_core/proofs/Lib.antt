pub mod ReadingLemmas
pub mod Theorems
