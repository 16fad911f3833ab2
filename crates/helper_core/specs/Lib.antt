pub mod Claims
pub mod Codes
pub mod Laws
pub mod Routes
pub mod Serving
pub mod Transcript
