pub mod Counts
pub mod Given
pub mod Options
pub mod Purposes
pub mod Words
