pub mod AnswerLemmas
pub mod DataLemmas
pub mod EndLemmas
pub mod HostLemmas
pub mod KeyLemmas
pub mod LawLemmas
pub mod ProgramLemmas
pub mod ServeLemmas
