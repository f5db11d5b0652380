-- Inner words: no public clause cites these.
pub mod Classes
pub mod Shapes
pub mod Adding
pub mod Sized
