pub mod Chains
pub mod Rules
pub mod HostKeys
pub mod Hosts
pub mod GroundsOf
pub mod Places
pub mod Samples
