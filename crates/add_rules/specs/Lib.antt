pub mod Destinations
pub mod Lengths
pub mod Rules
pub mod Typed
