pub mod Points
pub mod Multiples
pub mod Encoding
