pub mod Walk
pub mod Answer
pub mod Placed
pub mod inner
