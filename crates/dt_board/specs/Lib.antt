pub mod Job
pub mod Board
pub mod Steps
pub mod Passes
pub mod Answers
pub mod Sweep
pub mod inner
