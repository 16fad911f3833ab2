pub mod Faults
pub mod Reading
pub mod Replies
pub mod ReplyReading
pub mod Requests
pub mod Writing
