pub mod Encoding
pub mod Verification
