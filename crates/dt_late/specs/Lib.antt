pub mod Itimer
pub mod Poll
