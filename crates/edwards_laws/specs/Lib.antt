-- points and their sums as RFC 8032 has them
pub mod Points
