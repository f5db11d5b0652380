pub mod Lengths
pub mod Called
pub mod Munmap
pub mod Mprotect
pub mod Mmap
pub mod Brk
