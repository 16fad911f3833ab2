pub mod Closings
pub mod Fields
pub mod Grammar
pub mod Numbers
