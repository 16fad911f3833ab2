pub mod Parts
pub mod Entries
pub mod Hosts
pub mod HostKeys
