pub mod Picks
pub mod Script
pub mod Sink
pub mod Store
pub mod Order
pub mod Number
pub mod Host
pub mod inner
