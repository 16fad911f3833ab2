pub mod Removals
pub mod Rows
