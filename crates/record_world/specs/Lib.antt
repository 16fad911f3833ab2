pub mod Recording
pub mod Dues
pub mod Frames
pub mod Leads
pub mod Orders
pub mod Rows
