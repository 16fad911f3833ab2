pub mod Secrets
pub mod Hiding
pub mod Alike
pub mod Secrecy
pub mod Rows
pub mod Frames
pub mod Pieces
pub mod Runs
