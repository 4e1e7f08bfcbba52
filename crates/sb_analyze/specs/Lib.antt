pub mod Reasons
pub mod Learning
pub mod Cores
pub mod Explaining
pub mod Shown
pub mod Explained
pub mod Assumed
pub mod Minimising
