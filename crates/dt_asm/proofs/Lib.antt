pub mod Accepting
pub mod Codes
pub mod Demonstration
pub mod Loading
pub mod Pieces
