pub mod WordLemmas
pub mod SuspicionLemmas
pub mod MessageLemmas
pub mod OtherLemmas
