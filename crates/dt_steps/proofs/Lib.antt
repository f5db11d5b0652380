pub mod Same
pub mod Ran
pub mod Kept
pub mod Gone
