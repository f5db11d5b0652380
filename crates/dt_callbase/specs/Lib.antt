pub mod Scene
pub mod Arguments
pub mod Start
pub mod Places
pub mod Modes
pub mod Filling
pub mod Timespec
pub mod Sound
