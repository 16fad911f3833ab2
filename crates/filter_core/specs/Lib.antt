pub mod Index
pub mod Slots
pub mod Places
pub mod Happenings
pub mod Cuts
