pub mod Additions
pub mod Claims
pub mod Codes
pub mod Hearing
pub mod Laws
pub mod RelayWords
pub mod Relays
pub mod Stops
