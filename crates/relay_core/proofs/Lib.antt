pub mod AskLemmas
pub mod LawLemmas
pub mod PromptLemmas
pub mod RelayLemmas
pub mod VerdictLemmas
