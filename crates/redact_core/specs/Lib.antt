pub mod Redaction
pub mod Places
pub mod Blanks
pub mod Rows
