pub mod EncodingLemmas
pub mod VerifyingLemmas
