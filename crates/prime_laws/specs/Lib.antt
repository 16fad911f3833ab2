-- primes, and inverses modulo them
pub mod Primes
