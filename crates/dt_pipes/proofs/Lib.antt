pub mod Held
pub mod Standing
pub mod Alike
pub mod Cleared
