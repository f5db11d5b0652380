pub mod Time
pub mod Random
pub mod Calls
