pub mod Shown
pub mod Driver
pub mod Carried
pub mod Few
pub mod FewRun
pub mod Version
