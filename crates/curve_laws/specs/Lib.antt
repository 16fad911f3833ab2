-- sums of points as SEC 1 has them, for each curve
pub mod P256
pub mod P384
pub mod P521
