pub mod Constraints
pub mod HopReading
pub mod Hops
pub mod PurposeReading
pub mod Reading
pub mod Writing
