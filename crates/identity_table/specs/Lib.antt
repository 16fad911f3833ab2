pub mod Deaths
pub mod Identities
pub mod Indices
pub mod Lock
pub mod Tables
