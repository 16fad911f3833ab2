mod FrameLemmas
mod HearLemmas
mod LeadsLemmas
mod NoteLemmas
