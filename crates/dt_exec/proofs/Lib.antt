pub mod Walked
pub mod Opened
pub mod NoNul
pub mod Collected
pub mod Ended
pub mod Unread
