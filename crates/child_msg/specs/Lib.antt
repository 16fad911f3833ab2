pub mod ChildFrames
pub mod Messages
pub mod Reading
pub mod Writing
