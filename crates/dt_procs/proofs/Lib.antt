pub mod Pairs
pub mod Listed
pub mod Standing
pub mod Ending
pub mod Lowest
pub mod Cleared
