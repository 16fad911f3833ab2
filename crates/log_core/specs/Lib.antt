-- what public contracts say: a record's whole lines, what is seen of its run, its log, and the program with its words
-- and what it writes
pub mod Lines
pub mod Logs
pub mod Seeing
pub mod Words
pub mod Program
-- of private functions
pub mod Logging
-- of the laws
pub mod Rows
