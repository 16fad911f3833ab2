-- what is seen of a run, and the laws
pub mod Sights
pub mod Raised
pub mod Puts
pub mod Reads
pub mod Ends
pub mod Refusals
pub mod Tellings
pub mod Whys
pub mod EndRows
