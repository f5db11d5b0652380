pub mod Clock
pub mod Words
