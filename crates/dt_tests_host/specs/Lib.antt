pub mod Answered
pub mod Subject
