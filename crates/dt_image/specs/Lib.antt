pub mod Index
pub mod inner
pub mod ImageOf
pub mod Paths
pub mod Report
