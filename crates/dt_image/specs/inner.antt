-- Inner words: no public clause cites these.
pub mod IndexView
pub mod StoreFault
pub mod PathView
pub mod Input
