-- Inner words: no public clause cites these.
pub mod Listed
pub mod Rest
