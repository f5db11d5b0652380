pub mod Signals
pub mod Timer
pub mod Frame
pub mod Delivery
pub mod Return
pub mod Called
pub mod Laws
