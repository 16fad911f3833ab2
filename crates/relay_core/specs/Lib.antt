pub mod Claims
pub mod Codes
pub mod Laws
pub mod Prompts
pub mod Steps
pub mod Transcript
pub mod Verdicts
