pub mod Members
pub mod Table
pub mod inner
pub mod Laws
