pub mod Targets
pub mod Kept
pub mod May
