-- Inner words: no public clause cites these.
pub mod Dir
pub mod Kept
pub mod Node
pub mod Forest
pub mod Codes
pub mod EntryTree
pub mod Live
