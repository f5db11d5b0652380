pub mod Nodes
pub mod Stat
pub mod Status
pub mod Calls
pub mod Open
pub mod inner
