pub mod LawfulRunLemmas
pub mod ProgramLemmas
pub mod ServeLemmas
pub mod RecordLemmas
pub mod ServeLawLemmas
pub mod ServeFairLemmas
pub mod DrillProgramLemmas
