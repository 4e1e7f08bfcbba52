pub mod Backing
pub mod Standing
pub mod Settling
pub mod Lines
pub mod Assuming
