pub mod Wire
pub mod Frames
pub mod Bounds
