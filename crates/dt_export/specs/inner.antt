-- Inner words: no public clause cites these.
pub mod Errors
pub mod Held
pub mod Inodes
