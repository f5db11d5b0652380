pub mod Named
pub mod Stretches
pub mod Fit
pub mod Stepped
pub mod Ends
pub mod Lived
pub mod Clean
