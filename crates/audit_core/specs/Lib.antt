-- what public contracts say: the signing requests of a run, verdicts and reports, a record line by line, and the
-- program with its words and what it writes
pub mod Reports
pub mod Puts
pub mod Passes
pub mod Writing
pub mod Words
pub mod Program
-- what an event puts, as the agent tells it
pub mod Newest
-- of the laws
pub mod Rows
