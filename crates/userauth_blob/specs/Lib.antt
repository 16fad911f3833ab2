pub mod UserAuths
pub mod Reading
pub mod Logins
