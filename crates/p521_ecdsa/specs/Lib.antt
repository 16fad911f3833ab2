pub mod Keys
pub mod Nonces
pub mod Signatures
pub mod Verification
