-- what clients ask for and are told, bytes of sockets, and who is where
pub mod Requests
pub mod Peers
-- what is seen and what is told of it
pub mod Books
-- the text of what is told
pub mod Shown
pub mod Dates
pub mod Lines
-- of the laws
pub mod Rows
