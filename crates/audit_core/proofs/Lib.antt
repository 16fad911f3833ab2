pub mod AdvanceLemmas
pub mod NewestLemmas
pub mod MismatchLemmas
pub mod CompareLemmas
pub mod HistoryLemmas
pub mod WritingLemmas
pub mod ReportLemmas
