pub mod Tables
pub mod Beside
