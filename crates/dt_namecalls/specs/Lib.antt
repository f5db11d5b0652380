pub mod Names
pub mod Unlink
pub mod Rename
pub mod Calls
pub mod inner
