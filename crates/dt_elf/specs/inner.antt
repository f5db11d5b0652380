-- Inner words: no public clause cites what stands in this folder.
pub mod Refused
pub mod Next
