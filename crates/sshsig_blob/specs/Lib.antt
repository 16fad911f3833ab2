pub mod FileSignatures
pub mod Reading
