pub mod PlaceLemmas
pub mod SlotLemmas
pub mod CutLemmas
pub mod LookLemmas
pub mod IndexLemmas
pub mod BufferLemmas
