pub mod Kept
pub mod Described
