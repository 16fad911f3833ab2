pub mod AuditLemmas
pub mod LineLemmas
pub mod RaisedLemmas
pub mod SightLemmas
pub mod LogLemmas
pub mod LoggingLemmas
pub mod EndLemmas
pub mod PieceLemmas
