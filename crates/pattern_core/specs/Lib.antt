pub mod Letters
pub mod Patterns
pub mod PatternLists
pub mod Pieces
