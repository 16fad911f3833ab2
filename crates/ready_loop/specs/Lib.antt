pub mod Happenings
pub mod Standing
pub mod Marks
pub mod Rooms
pub mod Moves
pub mod Turning
pub mod Serving
