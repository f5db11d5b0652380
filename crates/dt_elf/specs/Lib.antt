pub mod Header
pub mod Executable
pub mod Placed
pub mod ProgramBreak
pub mod SegmentPages
pub mod Stack
pub mod FirstMachine
pub mod inner
