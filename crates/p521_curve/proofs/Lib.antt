pub mod AdditionLemmas
pub mod DecodingLemmas
