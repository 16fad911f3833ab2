pub mod Keys
pub mod Signatures
pub mod Verification
