pub mod Kept
pub mod Described
pub mod Opening
pub mod Moved
