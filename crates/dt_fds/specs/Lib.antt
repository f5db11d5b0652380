pub mod Descriptions
pub mod Pipes
pub mod Holding
pub mod OpenFiles
pub mod Ends
pub mod Backs
pub mod Ready
pub mod inner
