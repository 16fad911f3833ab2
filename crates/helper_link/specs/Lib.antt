pub mod Answered
pub mod Calls
pub mod HelperLink
pub mod Settling
pub mod Sound
pub mod Stream
pub mod Telling
