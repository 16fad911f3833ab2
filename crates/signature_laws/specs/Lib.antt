pub mod Signatures
pub mod Streams
pub mod Lives
pub mod Rows
