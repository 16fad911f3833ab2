mod FieldLemmas
pub mod NumberLemmas
pub mod ReadBack
pub mod ShortLines
pub mod Theorems
