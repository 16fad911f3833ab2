pub mod EncodingLemmas
pub mod KeyLemmas
pub mod NonceLemmas
pub mod SigningLemmas
pub mod SumLemmas
pub mod VerifyingLemmas
