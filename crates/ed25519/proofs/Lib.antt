pub mod SigningLemmas
pub mod SumLemmas
pub mod VerifyingLemmas
