pub mod KeepLemmas
pub mod KeptLemmas
pub mod PlaceLemmas
pub mod ShortLemmas
pub mod TimeLemmas
pub mod VerificationLemmas
