pub mod Rounds
pub mod Lending
pub mod Brought
pub mod Taking
pub mod Beside
pub mod Circle
pub mod Completed
