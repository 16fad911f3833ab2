pub mod Jobs
pub mod Parts
pub mod Times
pub mod Verifications
