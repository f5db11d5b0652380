pub mod Entries
pub mod Values
pub mod Total
pub mod Lent
pub mod inner
