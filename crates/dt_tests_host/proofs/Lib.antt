pub mod Kept
pub mod Numbers
pub mod Piped
pub mod Started
