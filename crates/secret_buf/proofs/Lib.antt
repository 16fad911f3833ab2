pub mod BufferLemmas
