-- Inner words: no public clause cites these.
pub mod Failures
pub mod Fails
pub mod Exporting
pub mod Listing
