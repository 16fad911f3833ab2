pub mod PartLemmas
pub mod ListLemmas
pub mod HostLemmas
pub mod EntryLemmas
pub mod KeyLemmas
