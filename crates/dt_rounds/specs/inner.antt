-- Inner words: no public clause cites these.
pub mod Crew
pub mod Round
