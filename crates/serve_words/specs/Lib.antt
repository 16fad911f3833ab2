pub mod Rules
pub mod Serve
