pub mod Keys
pub mod Signing
