-- Inner words: no public clause cites these.
pub mod Errors
pub mod InCode
pub mod Good
pub mod Arriving
