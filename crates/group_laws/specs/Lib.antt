-- commutative groups
pub mod Groups
-- multiples by digits
pub mod Digits
