-- what public contracts say: how a run ends, what a schedule prints, its format, and how ports settle
pub mod Claims
pub mod Replay
pub mod Choices
pub mod Formats
pub mod Settling
pub mod Told
pub mod Holding
-- what a drill draws, what comes of it, and how it ends
pub mod Draws
pub mod Drill
pub mod DrillClaims
-- of private functions
pub mod Counts
pub mod Drilling
pub mod GoesOn
pub mod Feeding
pub mod Rounds
pub mod Finishing
