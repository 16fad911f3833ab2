pub mod Base64
pub mod Faults
pub mod PlainKeys
pub mod Bodies
pub mod BodyReading
pub mod PublicLines
