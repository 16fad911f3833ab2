pub mod BlankLemmas
pub mod StepLemmas
pub mod FrameLemmas
pub mod HiddenLemmas
pub mod PlaceLemmas
pub mod GrowLemmas
