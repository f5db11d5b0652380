-- Inner words: no public clause cites these.
pub mod Left
pub mod Errors
pub mod Going
