pub mod CommandLemmas
pub mod Literals
