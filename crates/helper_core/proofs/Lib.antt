pub mod ReplyLemmas
pub mod StepLemmas
pub mod ServeLemmas
pub mod EndLemmas
pub mod ProgramLemmas
pub mod LawLemmas
