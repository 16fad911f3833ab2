pub mod Hearing
pub mod Talk
pub mod Words
