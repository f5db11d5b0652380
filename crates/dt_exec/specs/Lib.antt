pub mod Lookup
pub mod Arguments
pub mod Script
pub mod Program
pub mod inner
