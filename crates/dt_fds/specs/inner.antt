-- Inner words: no public clause cites these.
pub mod Codes
pub mod Copies
pub mod Counts
pub mod Ends
