pub mod AdditionLemmas
pub mod CutLemmas
pub mod EndLemmas
pub mod HearingLemmas
pub mod LawLemmas
pub mod RelayLemmas
pub mod WordLemmas
