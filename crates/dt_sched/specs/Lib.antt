pub mod Order
pub mod Core
pub mod Laws
pub mod inner
