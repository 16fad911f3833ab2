pub mod Codes
pub mod Lists
pub mod Moves
pub mod Passing
pub mod Program
pub mod Purposes
