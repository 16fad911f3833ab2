pub mod Questions
pub mod Rows
