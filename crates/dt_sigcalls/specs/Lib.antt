pub mod Called
pub mod Sigaction
pub mod Sigprocmask
