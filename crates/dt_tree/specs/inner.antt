-- Inner words: no public clause cites these.
pub mod Tables
pub mod Created
pub mod Names
pub mod Lists
pub mod Kinds
pub mod Places
pub mod Files
pub mod Moves
pub mod Codes
pub mod Emptied
