pub mod Encoding
pub mod Multiples
pub mod Points
