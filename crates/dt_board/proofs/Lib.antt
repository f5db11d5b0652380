pub mod Jobs
pub mod Lists
pub mod Rule
pub mod Seats
pub mod Shelf
pub mod Sweeps
