pub mod Knowing
pub mod Tried
pub mod Laws
