pub mod Passed
pub mod Ranges
pub mod Matches
pub mod Commands
pub mod Requests
