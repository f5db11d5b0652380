-- Inner words: no public clause cites these.
pub mod Held
