pub mod Theorems
pub mod LetterLemmas
pub mod PieceLemmas
pub mod PlaceLemmas
pub mod SearchLemmas
pub mod ListLemmas
