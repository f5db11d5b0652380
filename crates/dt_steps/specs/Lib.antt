pub mod Steps
pub mod Cache
pub mod Answered
pub mod inner
