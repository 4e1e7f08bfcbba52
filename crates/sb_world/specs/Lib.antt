pub mod Outside
pub mod Moved
pub mod Memory
pub mod Ports
pub mod Sources
pub mod Worlds
