pub mod Purposes
pub mod Suspicions
pub mod Messages
pub mod Rows
