pub mod PointLemmas
pub mod DecodingLemmas
